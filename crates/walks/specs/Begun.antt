-- The record that the machine begins with stands for document 01's first obligation: `begun_related`.
use Prim.Native.Nat.{ℕ, zero, suc, ◌*◌, ◌<◌, ◌≤◌}
use Rattle.std.specs.Prelude.{◌≡◌, ◌⊎◌, eqb, set, replicate}
use Rattle.std.proofs.Math.Path.{refl, ap}
use Rattle.std.proofs.Common.{sym, ◌∙◌, ⊎_elim, eq-or-lt_of_le, length-set, get_or-set_same, get_or-set_other, ext_get_or}
use mathlib.Core.List.{List, [], ◌∷◌, map}
use native.Mathlib.Omega.{arith}
use Rattle.std.proofs.Math.ListN.{length, get_or, drop, length-replicate, length-map, get_or-map}
use Rattle.std.proofs.lemmas.List.{get_or-replicate}
use Rattle.std.proofs.Math.Seq.{drop-cons, drop-length}
use Rattle.scope.specs.Logic.Form.{Form}
use Rattle.scope.specs.Logic.Facts.{Fact}
use Rattle.scope.specs.Limits.{most_principals, most_clauses, most_chunks}
use Rattle.scope.specs.Logic.Obligation.{Lab, lab, fact_of, root_facts, start}
use Rattle.facts.specs.Rows.{root_rows, noted}
use Rattle.facts.specs.Kept.{Kept}
use Rattle.facts.proofs.Noted.{kept_note}
use Rattle.facts.specs.Root.{kept_root}
use Rattle.moves.specs.Steps.{pick}
use Rattle.machine.specs.Tables.{places, clause_places, block}
use Rattle.machine.specs.Machine.{line_noted, lines_noted, lines_put, first, begun}
use Rattle.walks.specs.Trees.{by_means, Reading}
use Rattle.walks.specs.Blocks.{block_length}
use Rattle.walks.specs.Related.{labs, sheet_of, entry_at, down_from, at_goal_lem, at_rest, Clauses, none_waits, met_in, Related, now_open}
use Rattle.walks.specs.Rooms.{labs_length}
use Rattle.walks.specs.Fitting.{labs_at}

-- The policy lines are put into the clause table one by one.
put_length : (lines : List ℕ) (n : ℕ) (cl : List ℕ) → length (lines_put lines n cl) ≡ length cl
unfolding lines_put
put_length lines zero cl = refl
put_length lines (suc n) cl = put_length lines n (set cl n (get_or lines n 0)) ∙ length-set cl n (get_or lines n 0)

put_past : (lines : List ℕ) (n i : ℕ) (cl : List ℕ) → n ≤ i → get_or (lines_put lines n cl) i 0 ≡ get_or cl i 0
unfolding lines_put
put_past lines zero i cl h = refl
put_past lines (suc n) i cl h =
    let other : i ≡ n → ⊥ = λ e. omega arith in
    put_past lines n i (set cl n (get_or lines n 0)) (omega arith) ∙ get_or-set_other cl n i (get_or lines n 0) 0 other

put_at : (lines : List ℕ) (n i : ℕ) (cl : List ℕ) → i < n → n ≤ length cl → get_or (lines_put lines n cl) i 0 ≡ get_or lines i 0
unfolding lines_put
put_at lines zero i cl h l = absurd (omega arith)
put_at lines (suc n) i cl h l =
    go (put_at lines n i (set cl n (get_or lines n 0))) (eq-or-lt_of_le {n = i} {m = n} (omega arith))
  where
    long : n ≤ length (set cl n (get_or lines n 0))
    long = rw length-set (omega arith)

    go : (i < n → n ≤ length (set cl n (get_or lines n 0)) → get_or (lines_put lines n (set cl n (get_or lines n 0))) i 0 ≡ get_or lines i 0) →
        (i ≡ n) ⊎ (i < n) → get_or (lines_put lines n (set cl n (get_or lines n 0))) i 0 ≡ get_or lines i 0
    go older =
        ⊎_elim
        (λ e.
        rw e
        (put_past lines n n (set cl n (get_or lines n 0)) (omega arith) ∙ get_or-set_same cl n (get_or lines n 0) 0 l))
        (λ g. older g long)

abbrev zeros : List ℕ
zeros = replicate clause_places 0

module _ (T : Reading) (lines nums : List ℕ) (count : ℕ) (long : length nums ≡ count) (few : count ≤ most_clauses)
    (same : (i : ℕ) → i < count → get_or nums i 0 ≡ get_or lines i 0) (known : (i : ℕ) → i < count → get_or lines i 0 < T.formulas) where
  abbrev policy : List Form
  policy = map T.tree nums

  abbrev at_root : List Lab
  at_root = map (λ (f : Form). lab f 0) policy

  -- Every line is a clause of the root,
  clauses_begun : Clauses T (lines_put lines count zeros) zeros count at_root
  clauses_begun =
      record {
        are = ext_get_or (lab (T.tree 0) 0) at_root (labs T.tree count cl zeros) lengths each;
        known = record { each = λ i h. rw (put i h) (known i h) };
        few = few;
      }
    where
      cl : List ℕ
      cl = lines_put lines count zeros

      put : (i : ℕ) → i < count → get_or cl i 0 ≡ get_or lines i 0
      put i h = put_at lines count i zeros h (rw length-replicate (omega arith))

      mapped : length at_root ≡ count
      mapped = length-map policy (λ (f : Form). lab f 0) ∙ length-map nums T.tree ∙ long

      lengths : length at_root ≡ length (labs T.tree count cl zeros)
      lengths = mapped ∙ sym (labs_length T.tree count cl zeros)

      each : (i : ℕ) → i < length at_root →
          get_or at_root i (lab (T.tree 0) 0) ≡
          get_or (labs T.tree count cl zeros) i (lab (T.tree 0) 0)
      each i h =
          let low : i < count = omega (arith, mapped) in
          let within : i < clause_places = omega arith in
          let right : get_or (labs T.tree count cl zeros) i (lab (T.tree 0) 0) ≡ lab (T.tree (get_or cl i 0)) (get_or zeros i 0) =
          labs_at T.tree count i cl zeros (lab (T.tree 0) 0) low in
          let number : get_or nums i 0 ≡ get_or cl i 0 = same i low ∙ sym (put i low) in
          get_or-map (λ (f : Form). lab f 0) policy i (T.tree 0) ∙
          ap (λ (f : Form). lab f 0) (get_or-map T.tree nums i 0 ∙ ap T.tree number) ∙
          ap (λ (u : ℕ). lab (T.tree (get_or cl i 0)) u) (sym (get_or-replicate clause_places i 0 0 within)) ∙ sym right

  -- and an `sf` line is a fact there.
  line_kept : (f : ℕ) → f < T.formulas → (fs : List Fact) (rows : List ℕ) → Kept (sheet_of T 1) fs rows →
      Kept (sheet_of T 1) (fact_of (T.tree f) fs) (line_noted T.table f rows)
  unfolding line_noted pick
  line_kept f h fs rows kept =
      by_means (λ kind l r t. Kept (sheet_of T 1) (fact_of t fs) (pick (eqb kind 7) (noted rows 0 l r) rows))
      (λ p r. kept) (λ l r. kept) (λ l r. kept) (λ f g p q. kept) (λ f g p q. kept) (λ f g p q. kept) (λ a g p q. kept)
      (λ a b p q. kept_note kept refl p q) (T.means f h)

  -- They are noted from the last back, so that the facts stand in the lines' order.
  lines_kept : (i : ℕ) → i ≤ count → (rows : List ℕ) → Kept (sheet_of T 1) (root_facts (drop i policy)) rows →
      Kept (sheet_of T 1) (root_facts policy) (lines_noted T.table lines i rows)
  unfolding lines_noted root_facts
  lines_kept zero h rows kept = kept
  lines_kept (suc i) h rows kept =
      let low : i < length policy = omega (arith, length-map nums T.tree, long) in
      let this : get_or policy i (T.tree 0) ≡ T.tree (get_or lines i 0) =
      get_or-map T.tree nums i 0 ∙ ap T.tree (same i h) in
      let split : drop i policy ≡ T.tree (get_or lines i 0) ∷ drop (suc i) policy =
      drop-cons policy i (T.tree 0) low ∙
      ap (λ (f : Form). f ∷ drop (suc i) policy) this in
      let now : Kept (sheet_of T 1) (root_facts (drop i policy)) (line_noted T.table (get_or lines i 0) rows) =
      rw split (line_kept (get_or lines i 0) (known i h) (root_facts (drop (suc i) policy)) rows kept) in
      lines_kept i (omega arith) (line_noted T.table (get_or lines i 0) rows) now

  pub begun_related : (goal : ℕ) → goal < T.formulas →
      Related T (begun T.table lines count goal) (start T.logic T.principals policy (T.tree goal) ∷ [])
  unfolding begun first start entry_at down_from met_in root_facts
  begun_related goal h =
      let some : 0 < 1 = omega arith in
      let all : drop count policy ≡ [] =
      rw (← (length-map nums T.tree ∙ long)) (drop-length policy) in
      let begins : Kept (sheet_of T 1) (root_facts (drop count policy)) root_rows = rw all (kept_root (sheet_of T 1) refl T.few) in
      now_open {ch = block most_chunks (replicate (places * most_chunks) 0) 0} {sv = block most_principals (replicate (places * most_principals) 0) 0} {n = 0} {m = 0}
      (record {
        stack_size =
            record {
              obligations = length-replicate places (first goal count);
              chunks = length-replicate {A = ℕ} (places * most_chunks) 0;
              saved = length-replicate {A = ℕ} (places * most_principals) 0;
            };
        cl_size = put_length lines count zeros ∙ length-replicate {A = ℕ} clause_places 0;
        ats_size = length-replicate {A = ℕ} clause_places 0;
        room = omega arith;
        on_top_lem = refl;
        chunk_size = block_length most_chunks (replicate (places * most_chunks) 0) 0;
        clauses = clauses_begun;
        kept = lines_kept count (omega arith) root_rows begins;
      })
      refl (at_rest (at_goal_lem h some)) none_waits
