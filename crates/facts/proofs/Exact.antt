-- The statements of this crate in one place. However a sequent's rows were made by the operations, returns to a mark (the saved rows of sf) included, they tell a
-- fact of its worlds and principals exactly if it follows from the sequent's own given facts by the rules of its logic: `built_exact`. And what did not
-- follow where a branch stood is not told after the return to it: `gone`.
use Rattle.std.specs.Prelude.{ℕ, suc, ◌<◌, ◌≤◌, Bool, true, false, ◌≡◌, refl, List, [], ◌∷◌, ◌↔◌}
use Rattle.std.proofs.Common.{arith}
use Rattle.scope.specs.Logic.Facts.{Fact, le, by, sf, is_unit, Sheet, grown, Closed, Basis}
use Rattle.facts.specs.Rows.{worlds_max, principals_max, told, sf_rows, put_sf, root_rows, grown_le, grown_by, noted}
use Rattle.facts.specs.Kept.{Aimed, Kept, basis_among, Agree, agree_self, agree_then, agree_put, kept_back}
use Rattle.facts.specs.Grown.{agree_le, agree_by}
use Rattle.facts.proofs.Grown.{kept_le, kept_by}
use Rattle.facts.specs.Noted.{agree_note}
use Rattle.facts.proofs.Noted.{kept_note}
use Rattle.facts.specs.Root.{kept_root}

-- Rows that a branch leaves, where it began with rows r and newest world m: it made newer worlds, noted at m or a newer one, and put rows of
-- sf back there, as a return to a mark of its own does.
pub data Branch (m : ℕ) (r : List ℕ) : List ℕ → Type 0 where
  begin : Branch m r r
  more_le : {s : List ℕ} (u n : ℕ) → Branch m r s → m < n → Branch m r (grown_le s u n)
  more_by : {s : List ℕ} (t : Bool) (a u n : ℕ) → Branch m r s → m < n → Branch m r (grown_by t s a u n)
  more_note : {s : List ℕ} (n a b : ℕ) → Branch m r s → m ≤ n → Branch m r (noted s n a b)
  more_back : {s : List ℕ} (n : ℕ) (t : List ℕ) → Branch m r s → m ≤ n → Branch m r (put_sf s n t)

-- Rows of a sequent with a sheet and the given facts fs: the root, to which the policy's sf lines are notes at world 0; a new
-- world behind u by ≤ or by S_a; a note at the newest world; and the return to a mark, the saved rows of sf of the newest world put back.
pub data Built : Sheet → List Fact → List ℕ → Type 0 where
  root : {sh : Sheet} → sh.worlds ≡ 1 → sh.principals ≤ principals_max → Built sh [] root_rows
  new_le : {sh : Sheet} {u : ℕ} {fs : List Fact} {r : List ℕ} →
      Built sh fs r → u < sh.worlds → sh.worlds < worlds_max → Built (grown sh) (le u sh.worlds ∷ fs) (grown_le r u sh.worlds)
  new_by : {sh : Sheet} {a u : ℕ} {fs : List Fact} {r : List ℕ} →
      Built sh fs r → a < sh.principals → u < sh.worlds → sh.worlds < worlds_max →
      Built (grown sh) (by a u sh.worlds ∷ fs) (grown_by (is_unit sh.logic) r a u sh.worlds)
  new_note : {sh : Sheet} {m a b : ℕ} {fs : List Fact} {r : List ℕ} →
      Built sh fs r → sh.worlds ≡ suc m → a < sh.principals → b < sh.principals → Built sh (sf m a b ∷ fs) (noted r m a b)
  return : {sh : Sheet} {m : ℕ} {fs : List Fact} {r s : List ℕ} →
      Built sh fs r → sh.worlds ≡ suc m → Branch m r s → Built sh fs (put_sf s m (sf_rows r m))

branch_agree : {m : ℕ} {r s : List ℕ} → Branch m r s → Agree (suc m) r s
branch_agree {m} {r} begin = agree_self (suc m) r
branch_agree {m} (more_le {s} u n b h) =
    let l : suc m ≤ suc m = omega arith in agree_then l (branch_agree b) (agree_le (suc m) u n s (omega arith))
branch_agree {m} (more_by {s} t a u n b h) =
    let l : suc m ≤ suc m = omega arith in agree_then l (branch_agree b) (agree_by (suc m) t a u n s (omega arith))
branch_agree {m} (more_note {s} n a b c h) =
    let l : suc m ≤ suc m = omega arith in agree_then l (branch_agree c) (agree_note (suc m) n a b s (omega arith))
branch_agree {m} (more_back {s} n t b h) =
    let l : suc m ≤ suc m = omega arith in agree_then l (branch_agree b) (agree_put (suc m) n s t (omega arith))

pub built_kept : {sh : Sheet} {fs : List Fact} {r : List ℕ} → Built sh fs r → Kept sh fs r
built_kept (root {sh} alone few) = kept_root sh alone few
built_kept (new_le b h g) = kept_le (built_kept b) h g
built_kept (new_by b w h g) = kept_by (built_kept b) w h g
built_kept (new_note b newest g h) = kept_note (built_kept b) newest g h
built_kept (return b newest s) = kept_back (built_kept b) newest (branch_agree s)

pub built_exact : {sh : Sheet} {fs : List Fact} {r : List ℕ} → Built sh fs r →
    (f : Fact) → Aimed sh f → (told r f ≡ true) ↔ Closed sh (Basis sh fs) f
built_exact b f h =
    let K = built_kept b in
    let own = basis_among K.made in
    (λ t. own.0 (K.right f h t), λ c. K.whole f (own.1 c))

pub gone : {sh : Sheet} {m : ℕ} {fs : List Fact} {r s : List ℕ} → Built sh fs r → sh.worlds ≡ suc m → Branch m r s →
    (f : Fact) → Aimed sh f → (Closed sh (Basis sh fs) f → ⊥) → told (put_sf s m (sf_rows r m)) f ≡ false
gone {m} {r = r} {s = s} b newest c f h none = go (told (put_sf s m (sf_rows r m)) f) refl
  where
    go : (t : Bool) → told (put_sf s m (sf_rows r m)) f ≡ t → t ≡ false
    go false e = refl
    go true e = absurd (none ((built_exact (return b newest c) f h).0 e))
