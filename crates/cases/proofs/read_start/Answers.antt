use Rattle.std.proofs.Common.{◌≡◌, ℕ, ◌+◌, ◌-◌, ◌≤◌, List, ◌++◌, rules, length, take, sym, ap, ◌∙◌, subst, length-take-le}
use Rattle.std.proofs.Math.Seq.{take-append-add}
use Rattle.std.proofs.lemmas.List.{take-append-le}
use Rattle.std.specs.Io.KnownBytes.{Consumes}
use Rattle.std.proofs.KnownBytes.{Consumes-trans}
use borrow.Rule.Slice.PartMut.{put_mid, post_of}
use Rattle.cases.proofs.read_start.Goals as goal

-- What a read puts behind the first a bytes stands there, after them.
read_behind : (a k n : ℕ) (xs ys : List ℕ) → a ≤ length xs → n ≤ length ys → take a xs ++ take n ys ≡ take (a + n) (put_mid a k xs ys)
read_behind a k n xs ys within fits =
    let front = take a xs in
    let after = post_of a k xs in
    ap (λ l. front ++ l) (sym (take-append-le n ys after fits))
    ∙ sym (take-append-add front (ys ++ after) n)
    ∙ ap (λ m. take (m + n) (front ++ (ys ++ after))) (length-take-le a xs within)

-- What was read before and what is read now are the first bytes of the room, one after the other.
pub loop-length-preserved : goal.loop-length-preserved
loop-length-preserved g c =
    let l = c.loop-length in
    let read = c.in-Ok in
    let joined = read_behind l.length (length l.room - l.length) read.more l.room c.read.new.buf l.invariant.0 read.ensures.bound.0 in
    (search rules, subst (Consumes _ _) joined (Consumes-trans _ _ _ _ _ l.invariant.1 read.ensures.bytes.0))
