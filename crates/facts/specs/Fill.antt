-- k entries of a list from a place on, each given by its number: what a loop that stores one entry a turn makes, and how it is read.
use Rattle.std.specs.Prelude.{ℕ, zero, suc, ◌+◌, ◌-◌, ◌<◌, ◌≤◌, ◌≡◌, refl, List, Bool, true, false, ◌⊎◌, ltb, get_or, set, length}
use Rattle.std.proofs.lemmas.List.{set_past, set-get_or, ext_get_or, places}
use borrow.Rule.Slice.PartMut.{put_mid}
use Rattle.std.proofs.Common.{◌∙◌, sym, inl, inr, ⊎_elim, ltb-true, ltb-false, arith, eq-or-lt_of_le, zero-add, add-one, length-set, get_or-set_same, get_or-set_other}

unfoldable pub fill : (ℕ → ℕ) → ℕ → ℕ → List ℕ → List ℕ
fill f at zero r = r
fill f at (suc k) r = set (fill f at k r) (at + k) (f k)

-- One turn of the loop: y is the list x of the turns before, with one entry more.
pub fill_more : (f : ℕ → ℕ) (at k : ℕ) (r : List ℕ) {x y : List ℕ} {z : ℕ} →
    x ≡ fill f at k r → y ≡ set x (at + k) z → z ≡ f k → y ≡ fill f at (k + 1) r
unfolding fill
fill_more f at k r p q e = rw (add-one, ← p, ← e) q

-- The same where the entries stand from 0 on.
pub fill_front : (f : ℕ → ℕ) (k : ℕ) (r : List ℕ) {x : List ℕ} {z : ℕ} →
    x ≡ fill f 0 k r → z ≡ f k → set x k z ≡ fill f 0 (k + 1) r
fill_front f k r {x} {z} p e = fill_more f 0 k r p (rw zero-add refl) e

pub length_fill : (f : ℕ → ℕ) (at k : ℕ) (r : List ℕ) → length (fill f at k r) ≡ length r
unfolding fill
length_fill f at zero r = refl
length_fill f at (suc k) r = length-set (fill f at k r) (at + k) (f k) ∙ length_fill f at k r

-- Of what stands outside nothing is changed, and within stands the entry.
pub fill_before : (f : ℕ → ℕ) (at k : ℕ) (r : List ℕ) (i : ℕ) → i < at → get_or (fill f at k r) i 0 ≡ get_or r i 0
unfolding fill
fill_before f at zero r i h = refl
fill_before f at (suc k) r i h =
    let other : i ≡ at + k → ⊥ = λ e. omega arith in
    get_or-set_other (fill f at k r) (at + k) i (f k) 0 other ∙ fill_before f at k r i h

pub fill_after : (f : ℕ → ℕ) (at k : ℕ) (r : List ℕ) (i : ℕ) → at + k ≤ i → get_or (fill f at k r) i 0 ≡ get_or r i 0
unfolding fill
fill_after f at zero r i h = refl
fill_after f at (suc k) r i h =
    let other : i ≡ at + k → ⊥ = λ e. omega arith in
    get_or-set_other (fill f at k r) (at + k) i (f k) 0 other ∙ fill_after f at k r i (omega arith)

-- What the turns before have left as it was.
pub fill_still : (f : ℕ → ℕ) (k : ℕ) (r : List ℕ) {x : List ℕ} → x ≡ fill f 0 k r → get_or x k 0 ≡ get_or r k 0
fill_still f k r p = rw p (fill_after f 0 k r k (omega arith))

-- A turn of the loop that leaves its entry as it was, which is as it is to be.
pub fill_kept : (f : ℕ → ℕ) (k : ℕ) (r : List ℕ) {x : List ℕ} → x ≡ fill f 0 k r → f k ≡ get_or r k 0 → x ≡ fill f 0 (k + 1) r
fill_kept f k r {x} p e =
    let still : get_or x k 0 ≡ f k = rw p (fill_after f 0 k r k (omega arith) ∙ sym e) in
    sym (set-get_or x k 0) ∙ fill_front f k r p still

pub fill_at : (f : ℕ → ℕ) (at k : ℕ) (r : List ℕ) (c : ℕ) → c < k → at + k ≤ length r →
    get_or (fill f at k r) (at + c) 0 ≡ f c
unfolding fill
fill_at f at zero r c h l = let z : ⊥ = omega arith in absurd z
fill_at f at (suc k) r c h l = go (fill_at f at k r c) (eq-or-lt_of_le {n = c} {m = k} (omega arith))
  where
    long : at + k < length (fill f at k r)
    long = rw (length_fill f at k r) (omega arith)

    go : (c < k → at + k ≤ length r → get_or (fill f at k r) (at + c) 0 ≡ f c) → (c ≡ k) ⊎ (c < k) →
        get_or (set (fill f at k r) (at + k) (f k)) (at + c) 0 ≡ f c
    go rest =
        ⊎_elim (λ e. rw e (get_or-set_same (fill f at k r) (at + k) (f k) 0 long))
        (λ j.
        let other : at + c ≡ at + k → ⊥ = λ e. omega arith in
        get_or-set_other (fill f at k r) (at + k) (at + c) (f k) 0 other ∙ rest j (omega arith))

-- Entries that are the same make the same list.
pub fill_same : (f g : ℕ → ℕ) (at k : ℕ) (r : List ℕ) → ((i : ℕ) → i < k → f i ≡ g i) → fill f at k r ≡ fill g at k r
unfolding fill
fill_same f g at zero r h = refl
fill_same f g at (suc k) r h =
    let last : k < suc k = omega arith in
    rw (fill_same f g at k r (λ i l. h i (omega arith)), h k last) refl

-- Two numbers, compared.
pub below_or_past : (i n : ℕ) → (i < n) ⊎ (n ≤ i)
below_or_past i n = go (ltb i n) refl
  where
    go : (t : Bool) → ltb i n ≡ t → (i < n) ⊎ (n ≤ i)
    go true e = inl (ltb-true i n e)
    go false e = inr (ltb-false i n e)

-- Past the end nothing is stored.
pub fill_past : (f : ℕ → ℕ) (at k : ℕ) (r : List ℕ) → length r ≤ at → fill f at k r ≡ r
unfolding fill
fill_past f at zero r h = refl
fill_past f at (suc k) r h = rw (fill_past f at k r h) (set_past r (at + k) (f k) (omega arith))

-- A list of just those entries, over one of as many; and such a list copied over a part of a longer one.
pub fill_whole : (f : ℕ → ℕ) (k : ℕ) (r x : List ℕ) → length r ≡ k → length x ≡ k → ((i : ℕ) → i < k → get_or x i 0 ≡ f i) → x ≡ fill f 0 k r
fill_whole f k r x room size each =
    ext_get_or 0 x (fill f 0 k r) (size ∙ sym room ∙ sym (length_fill f 0 k r))
    (λ i h.
    let low : i < k = omega arith in
    each i low ∙ sym (rw zero-add at (fill_at f 0 k r i low (omega arith))))

pub fill_mid : (f : ℕ → ℕ) (at k : ℕ) (r y : List ℕ) → at + k ≤ length r → length y ≡ k → ((i : ℕ) → i < k → get_or y i 0 ≡ f i) →
    put_mid at k r y ≡ fill f at k r
fill_mid f at k r y room size each = ext_get_or 0 _ _ (long ∙ sym (length_fill f at k r)) go
  where
    long : length (put_mid at k r y) ≡ length r
    long = grind (arith, places)

    low : (i : ℕ) → i < at → get_or (put_mid at k r y) i 0 ≡ get_or r i 0
    low i h = grind (arith, places)

    mid : (j : ℕ) → j < k → get_or (put_mid at k r y) (at + j) 0 ≡ get_or y j 0
    mid j h = grind (arith, places)

    high : (i : ℕ) → at + k ≤ i → get_or (put_mid at k r y) i 0 ≡ get_or r i 0
    high i h = grind (arith, places)

    go : (i : ℕ) → i < length (put_mid at k r y) → get_or (put_mid at k r y) i 0 ≡ get_or (fill f at k r) i 0
    go i h =
        ⊎_elim (λ l. low i l ∙ sym (fill_before f at k r i l))
        (λ p.
        ⊎_elim
        (λ l.
        let e : at + (i - at) ≡ i = omega arith in
        let j : i - at < k = omega arith in
        rw e at (mid (i - at) j ∙ each (i - at) j ∙ sym (fill_at f at k r (i - at) j room)))
        (λ q. high i q ∙ sym (fill_after f at k r i q))
        (below_or_past i (at + k)))
        (below_or_past i at)
