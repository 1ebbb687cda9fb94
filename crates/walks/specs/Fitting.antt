-- The limits for obligations of the current sequent, and the clause of a number among its clauses.
use Rattle.std.specs.Prelude.{ℕ, zero, suc, ◌+◌, ◌<◌, ◌≤◌, ◌≡◌, refl, ◌⊎◌, true, length, get_or}
use Rattle.std.proofs.Common.{ap, ◌∙◌, ⊎_elim, arith, eq-or-lt_of_le}
use mathlib.Core.List.{List, [], ◌∷◌, ◌++◌}
use Rattle.std.proofs.Math.Option.{some, none}
use Rattle.std.proofs.Math.ListN.{get_elem?, get_or-append}
use Rattle.std.proofs.lemmas.List.{get_or_at}
use Rattle.scope.specs.Logic.Form.{Form}
use Rattle.scope.specs.Logic.Facts.{Fact}
use Rattle.scope.specs.Logic.Obligation.{Lab, lab, Sequent, Phase, ob}
use Rattle.scope.specs.Limits.{most_clauses, most_open, most_chunks}
use Rattle.scope.specs.Logic.Room.{chunk_count, met_count, open_count, small, within}
use Rattle.moves.specs.declared.Phase as D
use Rattle.machine.specs.Machine.{Stack}
use Rattle.walks.specs.Trees.{Reading}
use Rattle.walks.specs.Related.{labs, Clauses, seq, Standing}
use Rattle.walks.specs.Rooms.{Small, small_more, within_true, labs_length}

pub clauses_length : {T : Reading} {cl ats : List ℕ} {c : ℕ} {ls : List Lab} → Clauses T cl ats c ls → length ls ≡ c
clauses_length {T} {cl} {ats} {c} k = ap length k.are ∙ labs_length T.tree c cl ats

-- The clauses of the current sequent are few.
pub clauses_few : {T : Reading} {rows cl ats ch sv : List ℕ} {stack : Stack} {n m c : ℕ} {ph : D.Phase} {fs : List Fact}
    {ls : List Lab} → Standing T rows stack n cl ats ph m c ch sv fs ls → length ls ≤ most_clauses
clauses_few frame = omega (arith, clauses_length frame.clauses, frame.clauses.few)

pub none_within : (w : ℕ) → w ≤ most_open → within w [] ≡ true
unfolding small open_count
none_within w h = within_true w [] refl (omega arith)

-- An obligation of another sequent.
pub one_within : (w : ℕ) (s : Sequent) (p : Phase) → Small s p → suc (met_count p) + w ≤ most_open → within w (ob s p ∷ []) ≡ true
unfolding small open_count
one_within w s p h g = within_true w (ob s p ∷ []) (small_more s p [] h refl) (omega arith)

module _ {T : Reading} {rows cl ats ch sv : List ℕ} {stack : Stack} {n m c : ℕ} {ph : D.Phase} {fs : List Fact}
    {ls : List Lab} (frame : Standing T rows stack n cl ats ph m c ch sv fs ls) (w : ℕ) where
  pub small_now : (p : Phase) → chunk_count p ≤ most_chunks → Small (seq T (suc m) fs ls) p
  small_now p h =
      record {
        worlds = frame.kept.worlds;
        clauses = clauses_few frame;
        chunks = h;
      }

  pub alone_within : (p : Phase) → chunk_count p ≤ most_chunks → suc (met_count p) + w ≤ most_open →
      within w (ob (seq T (suc m) fs ls) p ∷ []) ≡ true
  unfolding small open_count
  alone_within p h g =
      within_true w (ob (seq T (suc m) fs ls) p ∷ []) (small_more (seq T (suc m) fs ls) p [] (small_now p h) refl) (omega arith)

  pub pair_within : (p q : Phase) → chunk_count p ≤ most_chunks → chunk_count q ≤ most_chunks → suc (met_count p) + (suc (met_count q) + w) ≤ most_open →
      within w (ob (seq T (suc m) fs ls) p ∷ ob (seq T (suc m) fs ls) q ∷ []) ≡ true
  unfolding small open_count
  pair_within p q h i g =
      within_true w (ob (seq T (suc m) fs ls) p ∷ ob (seq T (suc m) fs ls) q ∷ [])
      (small_more (seq T (suc m) fs ls) p (ob (seq T (suc m) fs ls) q ∷ []) (small_now p h)
      (small_more (seq T (suc m) fs ls) q [] (small_now q i) refl))
      (omega arith)

-- The clause of a number.
found_in : (l : List Lab) (i : ℕ) (d : Lab) → i < length l → get_elem? l i ≡ some (get_or l i d)
found_in [] i d h = absurd (omega arith)
found_in (x ∷ l) zero d h = refl
found_in (x ∷ l) (suc i) d h = found_in l i d (omega arith)

found_past : (l : List Lab) (i : ℕ) → length l ≤ i → get_elem? l i ≡ none
found_past [] i h = refl
found_past (x ∷ l) zero h = absurd (omega arith)
found_past (x ∷ l) (suc i) h = found_past l i (omega arith)

pub labs_at : (tree : ℕ → Form) (n i : ℕ) (cl ats : List ℕ) (d : Lab) → i < n →
    get_or (labs tree n cl ats) i d ≡ lab (tree (get_or cl i 0)) (get_or ats i 0)
unfolding labs
labs_at tree zero i cl ats d h = absurd (omega arith)
labs_at tree (suc n) i cl ats d h = go (labs_at tree n i cl ats d) (eq-or-lt_of_le {n = i} {m = n} (omega arith))
  where
    new : Lab
    new = lab (tree (get_or cl n 0)) (get_or ats n 0)

    go : (i < n → get_or (labs tree n cl ats) i d ≡ lab (tree (get_or cl i 0)) (get_or ats i 0)) → (i ≡ n) ⊎ (i < n) →
        get_or (labs tree n cl ats ++ (new ∷ [])) i d ≡ lab (tree (get_or cl i 0)) (get_or ats i 0)
    go older =
        ⊎_elim (λ e. rw e (get_or_at (labs tree n cl ats) new [] d n (labs_length tree n cl ats)))
        (λ g. get_or-append (labs tree n cl ats) (new ∷ []) d i (rw (labs_length tree n cl ats) g) ∙ older g)

pub clause_at_lem : {T : Reading} {cl ats : List ℕ} {c : ℕ} {ls : List Lab} (i : ℕ) → Clauses T cl ats c ls → i < c →
    get_elem? ls i ≡ some (lab (T.tree (get_or cl i 0)) (get_or ats i 0))
clause_at_lem {T} {cl} {ats} {c} {ls} i k h =
    let d : Lab = lab (T.tree 0) 0 in
    found_in ls i d (omega (arith, clauses_length k)) ∙ ap (λ (x : Lab). some x) (rw k.are (labs_at T.tree c i cl ats d h))

pub clause_past : {T : Reading} {cl ats : List ℕ} {c : ℕ} {ls : List Lab} (i : ℕ) → Clauses T cl ats c ls → c ≤ i →
    get_elem? ls i ≡ none
clause_past {T} {cl} {ats} {c} {ls} i k h = found_past ls i (omega (arith, clauses_length k))
