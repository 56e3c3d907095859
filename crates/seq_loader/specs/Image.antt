-- Which images there are, and how each is written.
use Rattle.std.specs.Prelude.{◌≡◌, ◌≤◌, ◌<◌, ◌%◌, ℕ, List, ◌++◌, length, codes}
use Rattle.byteorder.specs.Endian.{little_bytes}
use Rattle.seq_words.specs.Description.{IsSize}
use Rattle.seq_loader.specs.declared.image.Image.{Image}

-- an image whose numbers are within their limits
pub record IsImage (i : Image) : Type 0 where
  pub size : IsSize 65536 i.size
  pub fits : length i.bytes ≤ i.size
  pub aligned : i.entry % 4 ≡ 0
  pub inside : i.entry < i.size

-- what an image begins with
abbrev pub mark : List ℕ
mark = codes "SQI1"

-- a number of the header: four bytes, the lowest first
abbrev pub number : ℕ → List ℕ
number n = little_bytes 4 n

-- how an image is written: the mark, its private size, how many bytes it has, its entry, and then these bytes
abbrev pub spelling : Image → List ℕ
spelling i = mark ++ number i.size ++ number (length i.bytes) ++ number i.entry ++ i.bytes

-- the grammar: the file is the written form of this image, which is within its limits
pub record Spells (file : List ℕ) (i : Image) : Type 0 where
  pub image : IsImage i
  pub text : file ≡ spelling i
