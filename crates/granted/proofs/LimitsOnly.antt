-- A limit turns an answer into 10 and does nothing else, for every room:
--     limits_only : Limited room i os xs (walk room i os xs) (walk free i os xs): the two are the same, or the first one is
--         answer 10 (suc j + i), where the first j steps go through within the room and the next goes by its rule but passes it
--     never_ten : without limits 10 is never the answer
--     derivation_free : Derivation room o xs → Derivation free o xs
use Rattle.std.specs.Prelude.{ℕ, suc, ◌≡◌, refl, true, List, [], ◌∷◌, ◌++◌, length}
use Rattle.std.proofs.Common.{sym, ◌∙◌, ap, arith}
use Rattle.scope.specs.Tools.Tests.{never}
use Rattle.scope.specs.Call.Answer.{Answer, answer}
use Rattle.scope.specs.Logic.Derivation.{Rule, Derives, DerivesAll, step, none, first, Derivation}
use Rattle.scope.specs.Logic.Room.{free}
use Rattle.scope.specs.Logic.Obligation.{Obligation, Step}
use Rattle.scope.specs.Logic.Walk.{walk}
use Rattle.granted.specs.Reasons.{Room, Reaches, here, onward, Breaks, refused, too_much}
use Rattle.granted.specs.LimitsOnly.{Limited, same, cut}
use Rattle.granted.proofs.Refusals.{in_range_lem}
use Rattle.granted.proofs.Walks.{Turn, on, over, stop, turn, walk_on, walk_stop}
use Rattle.granted.proofs.FirstBreak.{later, first_break}

is_free : (n : ℕ) (os : List Obligation) → free n os ≡ true
unfolding free
is_free n os = refl

-- Steps that go through within the room go through without limits.
pub reaches_free : {room : Room} {n : ℕ} {os os' : List Obligation} {xs left : List Step} →
    Reaches room n os xs os' left → Reaches free n os xs os' left
reaches_free here = here
reaches_free (onward {new} {waiting} r t d) = onward r (is_free (length waiting) new) (reaches_free d)

mutual
  derives_free : {room : Room} {n : ℕ} {o : Obligation} {xs rest : List Step} → Derives room n o xs rest →
      Derives free n o xs rest
  derives_free {n} (step {os} r t d) = step r (is_free n os) (derives_all_free d)

  derives_all_free : {room : Room} {n : ℕ} {os : List Obligation} {xs rest : List Step} →
      DerivesAll room n os xs rest → DerivesAll free n os xs rest
  derives_all_free none = none
  derives_all_free (first d e) = first (derives_free d) (derives_all_free e)

pub derivation_free : (room : Room) (o : Obligation) (xs : List Step) → Derivation room o xs → Derivation free o xs
derivation_free room o xs d = derives_free d

breaks_free : {os : List Obligation} {xs : List Step} {p : ℕ} → Breaks free os xs 10 p → ⊥
breaks_free (refused d r) = let h = in_range_lem r in omega arith
breaks_free (too_much {waiting} {new} d r t) =
    let e = is_free (length waiting) new in
    never cc

pub never_ten : (os : List Obligation) (xs : List Step) (p : ℕ) → walk free 0 os xs ≡ answer 10 p → ⊥
never_ten os xs p e =
    breaks_free
    ((first_break free os xs 10 p).0 (e, λ q. let z : ◌≡◌ {A = ℕ} 10 0 = cc in omega arith))

pub limits_only : (room : Room) (i : ℕ) (os : List Obligation) (xs : List Step) →
    Limited room i os xs (walk room i os xs) (walk free i os xs)
unfolding walk
limits_only room i [] [] = same refl
limits_only room i (o ∷ waiting) [] = same refl
limits_only room i [] (x ∷ xs) = same refl
limits_only room i (o ∷ waiting) (x ∷ xs) = go (turn room i o waiting x xs) (λ new. limits_only room (suc i) (new ++ waiting) xs)
  where
    next : {new : List Obligation} {a b : Answer} → Rule o x new → room (length waiting) new ≡ true →
        Limited room (suc i) (new ++ waiting) xs a b → Limited room i (o ∷ waiting) (x ∷ xs) a b
    next r t (same e) = same e
    next r t (cut {j} e b) = cut {j = suc j} (e ∙ ap (answer 10) (omega arith)) (later r t b)

    go : {a : Answer} → Turn room i o waiting x xs a →
        ((new : List Obligation) →
        Limited room (suc i) (new ++ waiting) xs (walk room (suc i) (new ++ waiting) xs) (walk free (suc i) (new ++ waiting) xs)) →
        Limited room i (o ∷ waiting) (x ∷ xs) a (walk free i (o ∷ waiting) (x ∷ xs))
    go (on {new} r t q) rest = rw (q, walk_on free i o waiting x xs new r (is_free (length waiting) new)) (next r t (rest new))
    go (over r t q) rest = cut {j = 0} (q ∙ ap (answer 10) (omega arith)) (too_much here r t)
    go (stop {k} r q) rest = same (q ∙ sym (walk_stop free i o waiting x xs k r))
