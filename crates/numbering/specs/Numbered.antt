-- The slots keep the first n rows of a table, no two of which are equal. What a caller carries through its loop is `Numbered`; what it
-- cites are the four laws below it.
use Prim.Native.Nat.{ℕ, zero, suc, ◌+◌, ◌*◌, ◌≤◌, ◌<◌}
use Rattle.std.proofs.Common.{add-one, not-suc-le-zero, ◌∙◌, eqb-true, ltb-true, ltb-false}
use native.Mathlib.Omega.{arith}
use Rattle.std.proofs.Math.Nat.{mod-lt}
use Rattle.std.specs.Prelude.{◌≡◌, Bool, List, [], ◌∷◌, ◌++◌, ltb, replicate}
use Rattle.std.proofs.Math.Path.{refl, ap, sym}
use Rattle.std.proofs.Math.Bool.{true, false, cond}
use Rattle.std.proofs.Math.Option.{none}
use Rattle.std.proofs.Math.Dec.{eqb}
use Rattle.std.proofs.Math.ListN.{length, get_or, set, length-set, get_or-append}
use Rattle.std.proofs.lemmas.List.{length-replicate, get_or_at}
use Rattle.std.proofs.Math.Seq.{get_or-set_same, get_or-set_other}
use Rattle.std.proofs.lemmas.Bool.{eqb-false}
use Rattle.scope.specs.File.Request.{Row}
use Rattle.scope.specs.Limits.{most_formulas}
use Rattle.scope.specs.Call.Tables.{form_entry, unpack}
use Rattle.scope.specs.Tools.Tests.{never}
use Rattle.classes.specs.Rows.{form_row, form_row_lem, unpack_at, unpack_length}
use Rattle.numbering.specs.declared.Place.{Place}
use Rattle.numbering.specs.declared.Place.TheVariants.{Taken, Free}
use Rattle.numbering.specs.Equal.{no_row, NoRepeat, found, first_found, absent_found}
use Rattle.numbering.specs.Slots.{head_slots, most_slots, most_turns, slot_under, head_of, key_of, place_in, number_at, kept_at, kept_free}
use Rattle.numbering.specs.Ways.{Way, way, walked, met_equal, way_kept, Enough, Empty, way_ends, way_filled}

pub record Numbered (t : List ℕ) (n : ℕ) (slots : List ℕ) : Type 0 where
  pub size : length slots ≡ most_slots
  pub few : n ≤ most_formulas
  -- no entry is of a later row
  pub small : (s : ℕ) → get_or slots s 0 ≤ n
  -- the rows under a row are later ones
  pub rises : (i side : ℕ) → side < 2 → 0 < get_or slots (slot_under i side) 0 → suc i < get_or slots (slot_under i side) 0
  -- each row is found at its own number
  pub kept : (i : ℕ) → i < n → place_in t slots (form_row t i) ≡ Taken i

-- Row i of the first n.
pub row_at_lem : (t : List ℕ) (n i : ℕ) → i < n → get_or (unpack form_entry n t) i no_row ≡ form_row t i
row_at_lem t n i h = unpack_at form_entry n t i no_row h ∙ form_row_lem t i

zeros : (n s : ℕ) → ◌≡◌ {A = ℕ} (get_or (replicate n 0) s 0) 0
zeros zero s = refl
zeros (suc n) zero = refl
zeros (suc n) (suc s) = zeros n s

-- Slots that are all 0 keep no row.
pub numbered_none : (t : List ℕ) → Numbered t 0 (replicate most_slots 0)
numbered_none t =
    record {
      size = length-replicate {A = ℕ} most_slots 0;
      few = omega arith;
      small = λ s. omega (arith, zeros most_slots s);
      rises = λ i side b h. absurd (omega (arith, zeros most_slots (slot_under i side)));
      kept = λ i h. absurd (not-suc-le-zero h);
    }

lower : (i n : ℕ) → i < suc n → (i ≡ n → ⊥) → i < n
lower i n h ne = go (ltb i n) refl
  where
    go : (b : Bool) → ltb i n ≡ b → i < n
    go true e = ltb-true i n e
    go false e = absurd (ne (omega (arith, ltb-false i n e)))

module _ (t : List ℕ) (n : ℕ) (slots : List ℕ) (w : Numbered t n slots) (r : Row) where
  place_way : Way t slots r most_turns (key_of r) (head_of r) (place_in t slots r)
  unfolding place_in
  place_way = way t slots r most_turns (key_of r) (head_of r)

  turns : Enough slots n most_turns (head_of r)
  unfolding head_of
  turns =
      let low : head_of r < head_slots = mod-lt _ (omega arith) in
      record { some = omega arith; more = λ p. omega (arith, w.few); low = omega arith }

  -- A row is found exactly if there is one that is equal, and at its number.
  pub numbered_found : number_at (place_in t slots r) ≡ found (unpack form_entry n t) r
  unfolding number_at
  numbered_found = go (place_in t slots r) refl
    where
      go : (p : Place) → place_in t slots r ≡ p → number_at p ≡ found (unpack form_entry n t) r
      go (Taken i) e =
          let met = met_equal t slots r n w.small place_way i e in
          sym
          (first_found (unpack form_entry n t) r i
          record {
            below = rw (unpack_length form_entry n t) met.1;
            equal = row_at_lem t n i met.1 ∙ met.0;
            before =
                λ j h same.
                let l : j < n = omega (arith, met.1) in
                let there : place_in t slots r ≡ Taken j = ap (place_in t slots) (sym same ∙ row_at_lem t n j l) ∙ w.kept j l in
                let z : j ≡ i = cc in
                omega arith;
          })
      go (Free q) e =
          sym
          (absent_found (unpack form_entry n t) r
          record {
            differ =
                λ j h same.
                let l : j < n = rw (unpack_length form_entry n t) at h in
                let there : place_in t slots r ≡ Taken j = ap (place_in t slots) (sym same ∙ row_at_lem t n j l) ∙ w.kept j l in
                never cc;
          })

  -- A row that is not there, kept as row n: the slots keep the first n + 1 rows of any table whose rows are these and that one.
  module _ (t' : List ℕ) (room : n < most_formulas) (rows : unpack form_entry (suc n) t' ≡ unpack form_entry n t ++ (r ∷ [])) where
    before : (i : ℕ) → i < n → form_row t' i ≡ form_row t i
    before i h =
        let l : i < length (unpack form_entry n t) = rw (unpack_length form_entry n t) h in
        sym (row_at_lem t' (suc n) i (omega arith)) ∙ ap (λ l. get_or l i no_row) rows ∙ get_or-append (unpack form_entry n t) (r ∷ []) no_row i l ∙
        row_at_lem t n i h

    new : form_row t' n ≡ r
    new =
        sym (row_at_lem t' (suc n) n (omega arith)) ∙ ap (λ l. get_or l n no_row) rows ∙
        get_or_at (unpack form_entry n t) r [] no_row n (unpack_length form_entry n t)

    kept_more : (q : ℕ) → place_in t slots r ≡ Free q → Numbered t' (suc n) (set slots q (suc n))
    unfolding place_in
    kept_more q e =
        let at : Empty slots n q = way_ends t slots r n w.small w.rises place_way turns q e in
        let inside : q < length slots = rw w.size (omega (arith, at.low)) in
        let entry : (s : ℕ) → (b : Bool) → eqb s q ≡ b → get_or (set slots q (suc n)) s 0 ≡ cond b (suc n) (get_or slots s 0) =
        λ s. elim [
          | true ↦ λ same. ap (λ x. get_or (set slots q (suc n)) x 0) (eqb-true s q same) ∙ get_or-set_same slots q (suc n) 0 inside
          | false ↦ λ other. get_or-set_other slots q s (suc n) 0 (eqb-false s q other)
        ] in
        record {
          size = length-set slots q (suc n) ∙ w.size;
          few = room;
          small = λ s. small_in s (eqb s q) (entry s (eqb s q) refl);
          rises = λ i side b h. rises_in i side b (eqb (slot_under i side) q) refl at.low (entry (slot_under i side) (eqb (slot_under i side) q) refl) h;
          kept = λ i h. kept_in i h at.empty inside (eqb i n) refl;
        }
      where
        small_in : (s : ℕ) (b : Bool) → get_or (set slots q (suc n)) s 0 ≡ cond b (suc n) (get_or slots s 0) → get_or (set slots q (suc n)) s 0 ≤ suc n
        small_in s true e = omega arith
        small_in s false e = omega (arith, w.small s)

        rises_in : (i side : ℕ) → side < 2 → (b : Bool) → eqb (slot_under i side) q ≡ b → q < head_slots + 2 * n →
            get_or (set slots q (suc n)) (slot_under i side) 0 ≡ cond b (suc n) (get_or slots (slot_under i side) 0) →
            0 < get_or (set slots q (suc n)) (slot_under i side) 0 → suc i < get_or (set slots q (suc n)) (slot_under i side) 0
        rises_in i side l true same low e h = let at = eqb-true (slot_under i side) q same in omega arith
        rises_in i side l false other low e h = let up = w.rises i side l (omega arith) in omega arith

        kept_in : (i : ℕ) → i < suc n → get_or slots q 0 ≡ 0 → q < length slots → (b : Bool) → eqb i n ≡ b →
            place_in t' (set slots q (suc n)) (form_row t' i) ≡ Taken i
        kept_in i h empty inside true last =
            let same : i ≡ n = eqb-true i n last in
            ap (λ x. place_in t' (set slots q (suc n)) (form_row t' x)) same ∙ ap (place_in t' (set slots q (suc n))) new ∙
            walked (way_filled t slots r n w.small w.rises place_way turns q e t' empty inside before new) ∙ ap Taken (sym same)
        kept_in i h empty inside false other =
            let ne = eqb-false i n other in
            let l : i < n = lower i n h ne in
            ap (place_in t' (set slots q (suc n))) (before i l) ∙
            walked
            (way_kept t t' slots (form_row t i) n q (suc n) w.small empty before
            (way t slots (form_row t i) most_turns (key_of (form_row t i)) (head_of (form_row t i))) i (w.kept i l)) ∙
            w.kept i l

    pub numbered_more : found (unpack form_entry n t) r ≡ none → Numbered t' (suc n) (kept_at (place_in t slots r) n slots)
    unfolding number_at
    numbered_more absent = go (place_in t slots r) refl (numbered_found ∙ absent)
      where
        go : (p : Place) → place_in t slots r ≡ p → number_at p ≡ none → Numbered t' (suc n) (kept_at p n slots)
        go (Taken i) e z = never cc
        go (Free q) e z = rw (kept_free (Free q) q n slots refl room ∙ ap (λ v. set slots q v) (add-one n)) (kept_more q e)

-- Rows that are kept do not repeat.
pub numbered_differ : (t : List ℕ) (n : ℕ) (slots : List ℕ) → Numbered t n slots → NoRepeat (unpack form_entry n t)
numbered_differ t n slots w =
    record {
      differ =
          λ i j h l same.
          let top : j < n = rw (unpack_length form_entry n t) at l in
          let low : i < n = omega arith in
          let one : form_row t i ≡ form_row t j = sym (row_at_lem t n i low) ∙ same ∙ row_at_lem t n j top in
          let both : Taken i ≡ Taken j = sym (w.kept i low) ∙ ap (place_in t slots) one ∙ w.kept j top in
          let z : i ≡ j = cc in
          omega arith;
    }
