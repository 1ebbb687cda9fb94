-- The walk answers with the first break, for every room:
--     first_break : (walk room 0 os xs ≡ answer k p) × ¬ (answer k p ≡ answer 0 0) ↔ Breaks room os xs k p
--     settled : walk room 0 (o ∷ []) xs ≡ a ↔ Settled room o xs a
--     one_answer : Settled room o xs a → Settled room o xs b → a ≡ b
--     left_over : Reaches room n os xs os' left → left ≡ drop n xs
--     short_place : Breaks room os xs 12 p → p ≡ suc (length xs)
--     break_range : Breaks room os xs k p → (7 ≤ k) × (k ≤ 12) × (0 < p) × (p ≤ suc (length xs))
use Rattle.std.specs.Prelude.{ℕ, suc, ◌+◌, ◌≤◌, ◌<◌, ◌≡◌, ◌↔◌, length, drop}
use Rattle.std.proofs.Math.Path.{refl, ap}
use Rattle.std.proofs.Common.{sym, ◌∙◌, arith}
use Rattle.std.proofs.Math.Bool.{true}
use mathlib.Core.List.{List, [], ◌∷◌, ◌++◌}
use Rattle.scope.specs.Call.Answer.{Answer, answer}
use Rattle.scope.specs.Logic.Derivation.{Rule}
use Rattle.scope.specs.Logic.Obligation.{Obligation, Step}
use Rattle.scope.specs.Logic.Walk.{walk}
use Rattle.granted.specs.Reasons.{Room, Reaches, here, onward, Breaks, too_long, refused, too_much, too_short, Settled}
use Rattle.granted.specs.Reasons.{grants, breaks}
use Rattle.granted.proofs.Refusals.{in_range_lem}
use Rattle.granted.proofs.Walks.{Turn, on, over, stop, turn, walk_on, walk_over, walk_stop}
use Rattle.granted.proofs.Granted.{granted, never_granted}

-- A break after one more step done is one place later.
pub later : {room : Room} {o : Obligation} {new waiting : List Obligation} {x : Step} {xs : List Step} {k p : ℕ} →
    Rule o x new → room (length waiting) new ≡ true → Breaks room (new ++ waiting) xs k p →
    Breaks room (o ∷ waiting) (x ∷ xs) k (suc p)
later r t (too_long d) = too_long (onward r t d)
later r t (refused d s) = refused (onward r t d) s
later r t (too_much d s u) = too_much (onward r t d) s u
later r t (too_short d) = too_short (onward r t d)

-- The steps that were done and those that are left are all there are.
counted : {room : Room} {n : ℕ} {os os' : List Obligation} {xs left : List Step} → Reaches room n os xs os' left →
    length xs ≡ n + length left
counted here = omega arith
counted (onward r t d) = omega (arith, counted d)

pub left_over : {room : Room} {n : ℕ} {os os' : List Obligation} {xs left : List Step} → Reaches room n os xs os' left →
    left ≡ drop n xs
left_over here = refl
left_over (onward r t d) = left_over d

pub short_place : {room : Room} {os : List Obligation} {xs : List Step} {p : ℕ} → Breaks room os xs 12 p →
    p ≡ suc (length xs)
short_place (refused d r) = absurd (let h = in_range_lem r in omega arith)
short_place (too_short d) = omega (arith, counted d)

-- The numbers and places of breaks.
pub break_range : {room : Room} {os : List Obligation} {xs : List Step} {k p : ℕ} → Breaks room os xs k p →
    (7 ≤ k) × (k ≤ 12) × (0 < p) × (p ≤ suc (length xs))
break_range (too_long d) = omega (arith, counted d)
break_range (refused d r) = let h = in_range_lem r in omega (arith, counted d)
break_range (too_much d r t) = omega (arith, counted d)
break_range (too_short d) = omega (arith, counted d)

-- What a walk comes to from some stack of obligations on, when i steps are done.
data Met (room : Room) (i : ℕ) (os : List Obligation) (xs : List Step) (a : Answer) : Type 0 where
  whole : a ≡ answer 0 0 → Met room i os xs a
  broken : {k p : ℕ} → Breaks room os xs k p → a ≡ answer k (p + i) → Met room i os xs a

module _ (room : Room) where
  reached : {n : ℕ} {os os' : List Obligation} {xs left : List Step} → Reaches room n os xs os' left → (i j : ℕ) → j ≡ n + i →
      walk room i os xs ≡ walk room j os' left
  reached here i j e = let same : i ≡ j = omega arith in rw same
  reached (onward {o} {x} {new} {waiting} {xs} r t d) i j e =
      walk_on room i o waiting x xs new r t ∙ reached d (suc i) j (omega arith)

  breaks_walk : {os : List Obligation} {xs : List Step} {k p : ℕ} → Breaks room os xs k p → walk room 0 os xs ≡ answer k p
  unfolding walk
  breaks_walk (too_long {n} d) = reached d 0 n (omega arith)
  breaks_walk (refused {n} {k} {o} {waiting} {x} {left} d r) = reached d 0 n (omega arith) ∙ walk_stop room n o waiting x left k r
  breaks_walk (too_much {n} {o} {waiting} {new} {x} {left} d r t) =
      reached d 0 n (omega arith) ∙ walk_over room n o waiting x left new r t
  breaks_walk (too_short {n} d) = reached d 0 n (omega arith)

  meets : (i : ℕ) (os : List Obligation) (xs : List Step) → Met room i os xs (walk room i os xs)
  unfolding walk
  meets i [] [] = whole refl
  meets i (o ∷ waiting) [] = broken (too_short here) (ap (answer 12) (omega arith))
  meets i [] (x ∷ xs) = broken (too_long here) (ap (answer 11) (omega arith))
  meets i (o ∷ waiting) (x ∷ xs) = go (turn room i o waiting x xs) (λ new. meets (suc i) (new ++ waiting) xs)
    where
      next : {new : List Obligation} → Rule o x new → room (length waiting) new ≡ true → (a : Answer) →
          a ≡ walk room (suc i) (new ++ waiting) xs →
          Met room (suc i) (new ++ waiting) xs (walk room (suc i) (new ++ waiting) xs) → Met room i (o ∷ waiting) (x ∷ xs) a
      next r t a q (whole e) = whole (q ∙ e)
      next r t a q (broken {k} {p} b e) = broken (later r t b) (q ∙ e ∙ ap (answer k) (omega arith))

      go : {a : Answer} → Turn room i o waiting x xs a →
          ((new : List Obligation) → Met room (suc i) (new ++ waiting) xs (walk room (suc i) (new ++ waiting) xs)) →
          Met room i (o ∷ waiting) (x ∷ xs) a
      go {a} (on {new} r t q) rest = next r t a q (rest new)
      go (over r t q) rest = broken (too_much here r t) (q ∙ ap (answer 10) (omega arith))
      go (stop {k} r q) rest = broken (refused here r) (q ∙ ap (answer k) (omega arith))

  met_break : {os : List Obligation} {xs : List Step} {a : Answer} (k p : ℕ) → Met room 0 os xs a → a ≡ answer k p →
      ¬ (answer k p ≡ answer 0 0) → Breaks room os xs k p
  met_break k p (whole q) e n = absurd (n (sym e ∙ q))
  met_break {os} {xs} k p (broken {k = l} {p = r} b q) e n =
      let same_number : l ≡ k = cc in
      let sum : r + 0 ≡ p = cc in
      let same_place : r ≡ p = omega arith in
      rw (same_number, same_place) at b

  break_place : {os : List Obligation} {xs : List Step} {k p : ℕ} → Breaks room os xs k p → answer k p ≡ answer 0 0 → ⊥
  break_place {k} (too_long {n} d) e = never_granted 11 n e
  break_place {k} (refused {n} d r) e = never_granted k n e
  break_place {k} (too_much {n} d r t) e = never_granted 10 n e
  break_place {k} (too_short {n} d) e = never_granted 12 n e

  pub first_break : (os : List Obligation) (xs : List Step) (k p : ℕ) →
      ((walk room 0 os xs ≡ answer k p) × ¬ (answer k p ≡ answer 0 0)) ↔ Breaks room os xs k p
  first_break os xs k p =
      (λ h. met_break k p (meets 0 os xs) h.0 h.1, λ b. (breaks_walk b, λ e. break_place b e))

  settled_walk : {o : Obligation} {xs : List Step} {a : Answer} → Settled room o xs a → walk room 0 (o ∷ []) xs ≡ a
  settled_walk {o} {xs} (grants d) = (granted room o xs).1 d
  settled_walk (breaks b) = breaks_walk b

  met_settled : (o : Obligation) (xs : List Step) (a : Answer) → walk room 0 (o ∷ []) xs ≡ a → Met room 0 (o ∷ []) xs a →
      Settled room o xs a
  met_settled o xs a e (whole q) = rw q (grants ((granted room o xs).0 (e ∙ q)))
  met_settled o xs a e (broken {k} {p} b q) = rw q (breaks (let same : p ≡ p + 0 = omega arith in rw same at b))

  pub settled : (o : Obligation) (xs : List Step) (a : Answer) → walk room 0 (o ∷ []) xs ≡ a ↔ Settled room o xs a
  settled o xs a = (λ e. met_settled o xs a e (rw e at (meets 0 (o ∷ []) xs)), λ s. settled_walk s)

  -- Any two answers that are allowed are equal.
  pub one_answer : {o : Obligation} {xs : List Step} {a b : Answer} → Settled room o xs a → Settled room o xs b → a ≡ b
  one_answer s t = sym (settled_walk s) ∙ settled_walk t
