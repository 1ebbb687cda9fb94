use Rattle.std.proofs.Common.{◌≡◌, ℕ, ◌+◌, ◌-◌, ◌≤◌, List, ◌++◌, rules, arith, length, take, slice_range, sym, ap, ◌∙◌, subst, le_refl, drop_at, length-take-le}
use Rattle.std.proofs.lemmas.Slice.{take-put_mid_below}
use Rattle.std.specs.Prelude.{Option, Result, Ok, Err, OnErr}
use Rattle.std.specs.Counts.{IsPrefixLen}
use Rattle.std.specs.Io.KnownBytes.{Consumes}
use Rattle.std.proofs.KnownBytes.{Consumes-kept, Consumes-trans}
use borrow.Rule.Slice.PartMut.{put_mid, post_of}
use lib.Seq.{take-add, take-append-le}
use Rattle.gate.proofs.read_input.Goals as goal

-- What stands in front is unchanged, and so a part from there on ends a longer front.
front_and_part : (a b : ℕ) (old new : List ℕ) → a ≤ b → take a new ≡ take a old → take a old ++ slice_range new a b ≡ take b new
front_and_part a b old new h front =
    let same : a + (b - a) ≡ b = omega arith in
    ap (λ l. l ++ slice_range new a b) (sym front) ∙ sym (take-add a (b - a) new) ∙ ap (λ n. take n new) same

-- The bytes that a read put at the start of the rest of a buffer.
part_read : (a k n : ℕ) (xs ys : List ℕ) → a ≤ length xs → n ≤ length ys → slice_range (put_mid a k xs ys) a (a + n) ≡ take n ys
part_read a k n xs ys within fits =
    let same : (a + n) - a ≡ n = omega arith in
    let after = post_of a k xs in
    ap (take ((a + n) - a)) (drop_at (take a xs) (ys ++ after) a (length-take-le a xs within)) ∙ ap (λ m. take m (ys ++ after)) same ∙ take-append-le n ys after fits

-- What was read before and what is read now are the first bytes of the file, one after the other.
pub loop-length-preserved : goal.loop-length-preserved
loop-length-preserved g c =
    let l = c.loop-length in
    let room = length l.file - l.length in
    let within = l.invariant.0 in
    let part = part_read l.length room c.in_ok-more.more l.file c.read.new.buf within c.in_ok-more.ensures.bound.0 in
    let joined =
    front_and_part
    l.length
    (l.length + c.in_ok-more.more)
    l.file
    (put_mid l.length room l.file c.read.new.buf)
    (omega arith)
    (take-put_mid_below _ _ _ _ _ (le_refl _) within) in
    (search rules, subst (Consumes _ _) (ap (λ s. take l.length l.file ++ s) (sym part) ∙ joined) (Consumes-trans _ _ _ _ _ l.invariant.1 c.in_ok-more.ensures.bytes.0))

-- What is said of a read that fails, once it is so for some count.
failed :
    {T E : Type 0} (r : Result T E) (old new : Option (List ℕ)) (file : List ℕ) (n : ℕ) → IsPrefixLen n file → Consumes old new (take n file)
    → OnErr r ((k : ℕ) × IsPrefixLen k file × Consumes old new (take k file))
failed (Ok x) old new file n fits read = tt
failed (Err e) old new file n fits read = (n, fits, read)

-- A read that fails consumes nothing, and what stands in front is unchanged.
pub returns-in_err-more-clause-failed : goal.returns-in_err-more-clause-failed
returns-in_err-more-clause-failed g c =
    let l = c.loop-length in
    let file = put_mid l.length (length l.file - l.length) l.file c.read.new.buf in
    let front : take l.length file ≡ take l.length l.file = take-put_mid_below _ _ _ _ _ (le_refl _) l.invariant.0 in
    let old = g.R.Read.remaining c.args.from.now in
    let new = g.R.Read.remaining c.read.new.self in
    failed
    c.from_residual.result
    old
    new
    file
    l.length
    (search rules)
    (subst (Consumes old new) (sym front) (Consumes-kept _ _ _ _ l.invariant.1 c.in_err-more.ensures.bytes))
