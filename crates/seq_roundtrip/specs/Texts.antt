-- The source that the texts of a listing make, and the image that it makes.
use Rattle.std.specs.Prelude.{◌≡◌, ℕ, ◌<◌, ◌==◌, All, None, List, [], ◌∷◌, ◌++◌, length, codes}
use Rattle.std.specs.List.{after_first}
use Rattle.seq_text.specs.Lines.{lines_of}
use Rattle.seq_loader.specs.declared.image.Image.{Image}
use Rattle.seq_loader.specs.Image.{IsImage}
use Rattle.seq_list.specs.Listing.{listing}
use Rattle.seq_asm.specs.Rules.{size_of, first_fault}
use Rattle.seq_asm.specs.Assembled.{Makes}

-- what stands behind the first space of a line
abbrev pub behind_space : List ℕ → List ℕ
behind_space line = after_first (λ byte. byte == 32) line

-- the text of a listing's line: what stands behind the address and the value
abbrev pub text_in : List ℕ → List ℕ
text_in line = behind_space (behind_space line)

-- the texts of lines, each a line
abbrev pub texts_in : List (List ℕ) → List ℕ
texts_in [] = []
texts_in (line ∷ lines) = text_in line ++ codes "\n" ++ texts_in lines

-- the source of a listing
abbrev pub source_in : List ℕ → List ℕ
source_in listing = texts_in (lines_of listing)

-- the image of these bytes, with the size that a source has by itself, and entry 0
abbrev pub image_with : List ℕ → Image
image_with bytes = record { size = size_of (length bytes) None; entry = 0; bytes = bytes }

-- A source violates no rule, and makes this image.
pub record Assembles (source : List ℕ) (i : Image) : Type 0 where
  pub faultless : first_fault source ≡ None
  pub makes : Makes source i

-- The texts of an image's listing, assembled, give the image's bytes.
abbrev pub ListingsAssemble : Type 0
ListingsAssemble = (i : Image) → IsImage i → All (λ byte. byte < 256) i.bytes → Assembles (source_in (listing 0 i.bytes)) (image_with i.bytes)
