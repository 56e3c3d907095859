use Rattle.std.proofs.Common.{◌≡◌, ℕ, ◌<◌, List, get_or, map, length, arith}
use Rattle.std.proofs.lemmas.List.{length-map, get_or-map}
use Rattle.seq_words.specs.declared.names.LineNo.{LineNo}
use Rattle.seq_words.specs.declared.events.Event.TheVariants.{Input}
use Rattle.seq_course.proofs.Scenes.{amid_begins, amid_may, amid_on, amid_breaks, list_end, breaks_from}
use Rattle.seq_course.proofs.Lists.{left_at, next_at, split_at}
use Rattle.seq_course.proofs.making.arrive.Goals as goal

inside : (l : LineNo) (bytes : List ℕ) (i : ℕ) → i < length bytes → i < length (map (λ byte. Input l byte) bytes)
inside l bytes i lt = omega (arith, lt, length-map bytes (λ byte. Input l byte))

arrival : (l : LineNo) (bytes : List ℕ) (i : ℕ) → i < length bytes → get_or (map (λ byte. Input l byte) bytes) i (Input l 0) ≡ Input l (get_or bytes i 0)
arrival l bytes i lt = get_or-map (λ byte. Input l byte) bytes i 0 (Input l 0) lt

pub loop-byte-init : goal.loop-byte-init
loop-byte-init g c = amid_begins _ _ c.requires

pub one-requires : goal.one-requires
one-requires g c =
    let bytes = c.args.bytes.now in
    let i = c.loop-byte.byte-index in
    amid_may _ _ _ _ _ _ (left_at (map (λ byte. Input c.args.number byte) bytes) i (Input c.args.number 0) _ (inside c.args.number bytes i c.loop-byte-test.true) (arrival c.args.number bytes i c.loop-byte-test.true)) c.loop-byte.invariant

pub loop-byte-preserved : goal.loop-byte-preserved
loop-byte-preserved g c =
    let bytes = c.args.bytes.now in
    let es = map (λ byte. Input c.args.number byte) bytes in
    let i = c.loop-byte.byte-index in
    let lt = inside c.args.number bytes i c.loop-byte-test.true in
    let is = arrival c.args.number bytes i c.loop-byte-test.true in
    amid_on _ _ _ _ _ _ _ _ (left_at es i (Input c.args.number 0) _ lt is) (next_at es i (Input c.args.number 0) _ lt is) c.loop-byte.invariant c.in_ok-one.ensures.ok

pub returns-in_err-one-clause-err : goal.returns-in_err-one-clause-err
returns-in_err-one-clause-err g c =
    let bytes = c.args.bytes.now in
    let i = c.loop-byte.byte-index in
    breaks_from _ _ _ _ _ c.from_residual.ensures.1 (amid_breaks _ _ _ _ _ _ _ _ (split_at (map (λ byte. Input c.args.number byte) bytes) i (Input c.args.number 0) _ (inside c.args.number bytes i c.loop-byte-test.true) (arrival c.args.number bytes i c.loop-byte-test.true)) c.loop-byte.invariant.made c.in_err-one.ensures.err)

pub returns-clause-ok : goal.returns-clause-ok
returns-clause-ok g c =
    let bytes = c.args.bytes.now in
    let es = map (λ byte. Input c.args.number byte) bytes in
    list_end c.loop-byte.byte-index es _ _ _ (let past = c.loop-byte-test.false in omega (arith, past, length-map bytes (λ byte. Input c.args.number byte))) c.loop-byte.invariant
