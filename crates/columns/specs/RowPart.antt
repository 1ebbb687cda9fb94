-- The items of a kind, parted by spaces and ended by the LF, and the kinds of a table: the text stops where the kind that goes furthest does.
use Prim.Native.Nat.{ℕ, zero, suc, ◌≤◌, ◌<◌}
use Rattle.std.specs.Prelude.{◌≡◌, refl, List, [], ◌∷◌, ◌++◌, Bool, true, false, cond, ltb, length}
use Rattle.std.proofs.Common.{arith, ltb-true, ltb-false}
use Rattle.scope.specs.Logic.Form.{both}
use Rattle.scope.specs.File.Number.{is_digit}
use Rattle.scope.specs.File.Kinds.{Kind, kind_in, kind_stop, kinds_stop}
use Rattle.scope.specs.File.Column.{Goes}
use Rattle.scope.specs.File.Stops.{byte_stop, word_stop, end_stop, items_stop, larger}
use Rattle.columns.specs.Laws.{Tells, After, Nothing, tells_nothing, tells_word}
use Rattle.columns.specs.NumberPart.{NumberThen, Undigited, tells_number}

-- The LF, and nothing follows.
abbrev pub Ended : List ℕ → Type 0
Ended = After (10 ∷ []) Nothing

pub tells_end : Tells Ended end_stop
unfolding end_stop word_stop byte_stop
tells_end = tells_word (10 ∷ []) tells_nothing

after_undigited : {P : List ℕ → Type 0} (c : ℕ) → is_digit c ≡ false → Undigited (After (c ∷ []) P)
after_undigited c q b t a =
    let e : b ≡ c = cc a.is in
    rw e q

pub end_undigited : Undigited Ended
unfolding is_digit both
end_undigited = after_undigited 10 refl

-- A space and a number for each operand, then the LF.
unfoldable pub Items : ℕ → List ℕ → Type 0
Items zero = Ended
Items (suc n) = After (32 ∷ []) (NumberThen (Items n))

pub items_undigited : (n : ℕ) → Undigited (Items n)
unfolding Items is_digit both
items_undigited zero = end_undigited
items_undigited (suc n) = after_undigited 32 refl

pub tells_items : (n : ℕ) → Tells (Items n) (items_stop n)
unfolding Items items_stop word_stop
tells_items zero = tells_end
tells_items (suc n) = tells_word (32 ∷ []) (tells_number (tells_items n) (items_undigited n))

-- A word of the table with the items of its kind.
abbrev pub OfKind : Kind → List ℕ → Type 0
OfKind c = After c.word (Items (length c.operands))

pub tells_kind : (c : Kind) → Tells (OfKind c) (kind_stop c)
unfolding kind_stop
tells_kind c = tells_word c.word (tells_items (length c.operands))

pub record InTable (ks : List Kind) (t : List ℕ) : Type 0 where
  pub at : ℕ
  pub known : at < length ks
  pub holds : OfKind (kind_in ks at) t

larger_left : (m n : ℕ) → m ≤ larger m n
unfolding larger
larger_left m n = go (ltb m n) refl
  where
    go : (x : Bool) → ltb m n ≡ x → m ≤ cond x n m
    go true e = omega (arith, ltb-true m n e)
    go false e = omega arith

larger_right : (m n : ℕ) → n ≤ larger m n
unfolding larger
larger_right m n = go (ltb m n) refl
  where
    go : (x : Bool) → ltb m n ≡ x → n ≤ cond x n m
    go true e = omega arith
    go false e = ltb-false m n e

module _ (c : Kind) (cs : List Kind) where
  first_kind : (p : List ℕ) → Goes (OfKind c) p → Goes (InTable (c ∷ cs)) p
  unfolding kind_in
  first_kind p g = record { continued = g.continued; whole = record { at = 0; known = omega arith; holds = g.whole } }

  later_kind : (p : List ℕ) → Goes (InTable cs) p → Goes (InTable (c ∷ cs)) p
  unfolding kind_in
  later_kind p g =
      let w = g.whole in
      record { continued = g.continued; whole = record { at = suc w.at; known = omega (arith, w.known); holds = w.holds } }

table_there : (ks : List Kind) (p r : List ℕ) → Goes (InTable ks) p → length p ≤ kinds_stop ks (p ++ r)
unfolding kinds_stop kind_in
table_there [] p r g = absurd (omega (arith, g.whole.known))
table_there (c ∷ cs) p r g = go g.whole.at g.whole.known g.whole.holds (table_there cs p r)
  where
    go :
        (at : ℕ) → at < suc (length cs) → OfKind (kind_in (c ∷ cs) at) (p ++ g.continued)
        → (Goes (InTable cs) p → length p ≤ kinds_stop cs (p ++ r)) → length p ≤ larger (kind_stop c (p ++ r)) (kinds_stop cs (p ++ r))
    go zero k h ih =
        let m = (tells_kind c).there p r (record { continued = g.continued; whole = h }) in
        omega (arith, m, larger_left (kind_stop c (p ++ r)) (kinds_stop cs (p ++ r)))
    go (suc j) k h ih =
        let m = ih (record { continued = g.continued; whole = record { at = j; known = omega arith; holds = h } }) in
        omega (arith, m, larger_right (kind_stop c (p ++ r)) (kinds_stop cs (p ++ r)))

-- The kind that goes furthest is one of the table's, if the table has any.
table_back : (ks : List Kind) (p r : List ℕ) → 0 < length ks → length p ≤ kinds_stop ks (p ++ r) → Goes (InTable ks) p
unfolding kinds_stop larger
table_back [] p r k h = absurd (omega arith)
table_back (c ∷ cs) p r k h = go (ltb (kind_stop c (p ++ r)) (kinds_stop cs (p ++ r))) refl h (table_back cs p r)
  where
    some_left : (ks : List Kind) → kind_stop c (p ++ r) < kinds_stop ks (p ++ r) → 0 < length ks
    some_left [] q = absurd (omega arith)
    some_left (e ∷ es) q = omega arith

    go :
        (x : Bool) → ltb (kind_stop c (p ++ r)) (kinds_stop cs (p ++ r)) ≡ x → length p ≤ cond x (kinds_stop cs (p ++ r)) (kind_stop c (p ++ r))
        → (0 < length cs → length p ≤ kinds_stop cs (p ++ r) → Goes (InTable cs) p) → Goes (InTable (c ∷ cs)) p
    go true e j ih = later_kind c cs p (ih (some_left cs (ltb-true (kind_stop c (p ++ r)) (kinds_stop cs (p ++ r)) e)) j)
    go false e j ih = first_kind c cs p ((tells_kind c).back p r j)

pub table_bounded : (ks : List Kind) (s : List ℕ) → kinds_stop ks s ≤ length s
unfolding kinds_stop larger
table_bounded [] s = omega arith
table_bounded (c ∷ cs) s = go (ltb (kind_stop c s) (kinds_stop cs s)) (table_bounded cs s) ((tells_kind c).bounded s)
  where
    go : (x : Bool) → kinds_stop cs s ≤ length s → kind_stop c s ≤ length s → cond x (kinds_stop cs s) (kind_stop c s) ≤ length s
    go true a b = a
    go false a b = b

pub tells_table : (ks : List Kind) → 0 < length ks → Tells (InTable ks) (kinds_stop ks)
tells_table ks h = record { there = table_there ks; back = λ p r. table_back ks p r h; bounded = table_bounded ks }
