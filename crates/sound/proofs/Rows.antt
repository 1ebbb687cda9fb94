-- Where each row's atom is below n and its principals are below k, every formula of the rows is over k principals and n atoms (`rows_over`);
-- so what is derived from a request's tables is entailed (`request_sound`).
use Prim.Native.Nat.{ℕ, zero, suc, ◌<◌}
use Rattle.std.specs.Prelude.{◌≡◌, Bool, get_or}
use Rattle.std.proofs.Math.Path.{refl}
use mathlib.Core.List.{List, [], ◌∷◌, ◌++◌, map}
use Rattle.scope.specs.Logic.Form.{Form, top}
use Rattle.scope.specs.File.Request.{Row, Request, row_form, forms_after, formula}
use Rattle.scope.specs.Logic.Obligation.{Obligation, Step, start}
use Rattle.scope.specs.Logic.Derivation.{Derivation}
use Rattle.scope.specs.Logic.Models.{Entailed}
use Rattle.sound.specs.Over.{Over, All, all_append}
use Rattle.sound.proofs.Sound.{sound}
use Rattle.sound.specs.Rows.{RowOk}

module _ (k n : ℕ) where
  place_over : (fs : List Form) → All (Over k n) fs → (i : ℕ) → Over k n (get_or fs i top)
  unfolding Over
  place_over [] h i = tt
  place_over (f ∷ fs) h zero = h.0
  place_over (f ∷ fs) h (suc i) = place_over fs h.1 i

  module _ (fs : List Form) (h : All (Over k n) fs) where
    kind_over : (c l r : ℕ) → (c ≡ 0 → l < n) → (c ≡ 6 → l < k) → (c ≡ 7 → l < k) → (c ≡ 7 → r < k) →
        Over k n (row_form fs (record { kind = c; left = l; right = r }))
    unfolding Over row_form
    kind_over zero l r a b c d = a refl
    kind_over (suc zero) l r a b c d = tt
    kind_over (suc (suc zero)) l r a b c d = tt
    kind_over (suc (suc (suc zero))) l r a b c d = (place_over fs h l, place_over fs h r)
    kind_over (suc (suc (suc (suc zero)))) l r a b c d = (place_over fs h l, place_over fs h r)
    kind_over (suc (suc (suc (suc (suc zero))))) l r a b c d = (place_over fs h l, place_over fs h r)
    kind_over (suc (suc (suc (suc (suc (suc zero)))))) l r a b c d = (b refl, place_over fs h r)
    kind_over (suc (suc (suc (suc (suc (suc (suc zero))))))) l r a b c d = (c refl, d refl)
    kind_over (suc (suc (suc (suc (suc (suc (suc (suc m)))))))) l r a b c d = tt

    row_over : (r : Row) → RowOk k n r → Over k n (row_form fs r)
    row_over r o = kind_over r.kind r.left r.right o.atom_in o.says_in o.sf_left_in o.sf_right_in

  after_over : (rs : List Row) → All (RowOk k n) rs → (fs : List Form) → All (Over k n) fs → All (Over k n) (forms_after fs rs)
  unfolding forms_after
  after_over [] o fs h = h
  after_over (r ∷ rs) o fs h =
      after_over rs o.1 (fs ++ (row_form fs r ∷ [])) (all_append (Over k n) fs (row_form fs r ∷ []) h (row_over fs h r o.0, tt))

  pub rows_over : (rs : List Row) → All (RowOk k n) rs → (i : ℕ) → Over k n (formula rs i)
  unfolding formula
  rows_over rs o i = place_over (forms_after [] rs) (after_over rs o [] tt) i

  pub lines_over : (rs : List Row) → All (RowOk k n) rs → (is : List ℕ) → All (Over k n) (map (formula rs) is)
  lines_over rs o [] = tt
  lines_over rs o (i ∷ is) = (rows_over rs o i, lines_over rs o is)

-- The theorem for a request's tables: the policy lines and the goal are formula numbers.
pub request_sound : (room : ℕ → List Obligation → Bool) (q : Request) (xs : List Step) → All (RowOk q.principals q.atoms) q.forms →
    Derivation room (start q.logic q.principals (map (formula q.forms) q.policy) (formula q.forms q.goal)) xs →
    Entailed q.logic q.principals q.atoms (map (formula q.forms) q.policy) (formula q.forms q.goal)
request_sound room q xs o d =
    sound room q.logic q.principals q.atoms (map (formula q.forms) q.policy) (formula q.forms q.goal) xs
    (lines_over q.principals q.atoms q.forms o q.policy)
    (rows_over q.principals q.atoms q.forms o q.goal)
    d
