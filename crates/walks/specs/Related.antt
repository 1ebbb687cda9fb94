-- How the record of the machine stands for document 01's open obligations. The entries of the stack, from the last opened down, are the
-- current obligation, the subgoals met in it (the last met first), and those that wait; each is `Rests` of its phase, or `Stands` in focus.
-- The rows hold the current obligation's facts; a waiting one's were held by rows that these agree with, but for the saved ones.
use Rattle.std.specs.Prelude.{ℕ, zero, suc, ◌*◌, ◌<◌, ◌≤◌, ◌≡◌, List, [], ◌∷◌, ◌++◌, map, length, get_or}
use Rattle.scope.specs.Logic.Form.{Form}
use Rattle.scope.specs.Logic.Facts.{Fact, Sheet}
use Rattle.scope.specs.Limits.{most_principals, most_clauses, most_open, most_chunks}
use Rattle.scope.specs.Logic.Obligation.{Lab, lab, Sequent, Phase, goal, chunks, focus, Obligation, ob}
use Rattle.facts.specs.Rows.{sf_rows}
use Rattle.facts.specs.Kept.{Kept, Agree}
use Rattle.moves.specs.declared.Phase as D
use Rattle.moves.specs.declared.Phase.TheVariants as phase
use Rattle.common.specs.Rows.{row_at}
use Rattle.machine.specs.declared.Obligation as E
use Rattle.machine.specs.Change as numbers
use Rattle.machine.specs.Tables.{places, clause_places, block}
use Rattle.machine.specs.Machine.{Stack, State, nothing}
use Rattle.machine.specs.Turn.{state_of}
use Rattle.walks.specs.Trees.{Reading}

-- An entry of the stack: what its tables say of one place.
pub record StackEntry : Type 0 where
  pub head : E.Obligation
  pub chunks : List ℕ
  pub saved : List ℕ

abbrev pub head_of : D.Phase → ℕ → ℕ → E.Obligation
head_of ph n c = record { phase = ph; worlds = n; clauses = c }

abbrev pub entry : D.Phase → ℕ → ℕ → List ℕ → List ℕ → StackEntry
entry ph n c ch sv = record { head = head_of ph n c; chunks = ch; saved = sv }

unfoldable pub entry_at : Stack → ℕ → StackEntry
unfolding block
entry_at stack i =
    record { head = get_or stack.obligations i nothing; chunks = block most_chunks stack.chunks i; saved = block most_principals stack.saved i }

-- The first n entries of the stack, the last of them first.
unfoldable pub down_from : Stack → ℕ → List StackEntry
unfolding entry_at
down_from stack zero = []
down_from stack (suc n) = entry_at stack n ∷ down_from stack n

pub record Sized (stack : Stack) : Type 0 where
  pub obligations : length stack.obligations ≡ places
  pub chunks : length stack.chunks ≡ places * most_chunks
  pub saved : length stack.saved ≡ places * most_principals

-- The first n clauses of the clause tables, and the first n chunks of an obligation's, the last on top.
unfoldable pub labs : (ℕ → Form) → ℕ → List ℕ → List ℕ → List Lab
labs tree zero cl ats = []
labs tree (suc n) cl ats = labs tree n cl ats ++ (lab (tree (get_or cl n 0)) (get_or ats n 0) ∷ [])

unfoldable pub chunks_of : (ℕ → Form) → ℕ → List ℕ → List Form
chunks_of tree zero ch = []
chunks_of tree (suc n) ch = tree (get_or ch n 0) ∷ chunks_of tree n ch

-- The first n numbers of a table are below F.
pub record Below (F n : ℕ) (l : List ℕ) : Type 0 where
  pub each : (i : ℕ) → i < n → get_or l i 0 < F

-- A phase without focus. Chunks are only ever at the newest world.
pub data Rests (T : Reading) (n : ℕ) (ch : List ℕ) : D.Phase → Phase → Type 0 where
  at_goal_lem : {f u : ℕ} → f < T.formulas → u < n → Rests T n ch (phase.Goal (numbers.lab f u)) (goal (lab (T.tree f) u))
  at_chunks : {f u m : ℕ} → f < T.formulas → suc u ≡ n → m < most_chunks → Below T.formulas (suc m) ch →
      Rests T n ch (phase.Chunks (numbers.lab f u) (suc m))
      (chunks (T.tree (get_or ch m 0)) (chunks_of T.tree m ch) (lab (T.tree f) u))

pub data Stands (T : Reading) (n : ℕ) (ch : List ℕ) : D.Phase → Phase → Type 0 where
  at_rest : {ph : D.Phase} {p : Phase} → Rests T n ch ph p → Stands T n ch ph p
  in_focus_lem : {f u t w q : ℕ} {met : List Lab} → f < T.formulas → w < n → q ≡ (row_at T.table t).left →
      Stands T n ch (phase.Focus (numbers.lab f u) (numbers.lab t w)) (focus (lab (T.tree f) u) q w met)

-- A sequent's clauses are the first c of the clause tables.
pub record Clauses (T : Reading) (cl ats : List ℕ) (c : ℕ) (ls : List Lab) : Type 0 where
  pub are : ls ≡ labs T.tree c cl ats
  pub known : Below T.formulas c cl
  pub few : c ≤ most_clauses

abbrev pub sheet_of : Reading → ℕ → Sheet
sheet_of T n = record { worlds = n; principals = T.principals; logic = T.logic }

abbrev pub seq : Reading → ℕ → List Fact → List Lab → Sequent
seq T n fs ls = record { sheet = sheet_of T n; facts = fs; clauses = ls }

-- The entries es, from the top down, are the waiting obligations os; none has more worlds than n or more clauses than c.
pub data Waits (T : Reading) (rows cl ats : List ℕ) : ℕ → ℕ → List StackEntry → List Obligation → Type 0 where
  none_waits : {n c : ℕ} → Waits T rows cl ats n c [] []
  one_waits : {n c m d : ℕ} {ph : D.Phase} {ch sv r : List ℕ} {es : List StackEntry} {fs : List Fact} {ls : List Lab}
      {p : Phase} {os : List Obligation} →
      suc m ≤ n → d ≤ c → Rests T (suc m) ch ph p → length ch ≡ most_chunks → Clauses T cl ats d ls →
      Kept (sheet_of T (suc m)) fs r → Agree (suc m) r rows → sv ≡ sf_rows r m → Waits T rows cl ats (suc m) d es os →
      Waits T rows cl ats n c (entry ph (suc m) d ch sv ∷ es) (ob (seq T (suc m) fs ls) p ∷ os)

-- The subgoals met in a focus, each a goal in the same sequent.
unfoldable pub met_in : Sequent → Phase → List Obligation
met_in s (goal g) = []
met_in s (chunks c cs g) = []
met_in s (focus d p w met) = map (λ (g : Lab). ob s (goal g)) met

-- The tables and the current entry, which is number n from the bottom.
pub record Standing (T : Reading) (rows : List ℕ) (stack : Stack) (n : ℕ) (cl ats : List ℕ)
    (ph : D.Phase) (m c : ℕ) (ch sv : List ℕ) (fs : List Fact) (ls : List Lab) : Type 0 where
  pub stack_size : Sized stack
  pub cl_size : length cl ≡ clause_places
  pub ats_size : length ats ≡ clause_places
  pub room : n < most_open
  pub on_top_lem : entry_at stack n ≡ entry ph (suc m) c ch sv
  pub chunk_size : length ch ≡ most_chunks
  pub clauses : Clauses T cl ats c ls
  pub kept : Kept (sheet_of T (suc m)) fs rows

pub data Related (T : Reading) : State → List Obligation → Type 0 where
  all_closed : {rows cl ats : List ℕ} {stack : Stack} → Related T (state_of rows stack 0 cl ats) []
  now_open : {rows cl ats ch sv : List ℕ} {stack : Stack} {es : List StackEntry} {n m c : ℕ} {ph : D.Phase} {fs : List Fact}
      {ls : List Lab} {p : Phase} {waiting : List Obligation} →
      Standing T rows stack n cl ats ph m c ch sv fs ls → down_from stack n ≡ es → Stands T (suc m) ch ph p →
      Waits T rows cl ats (suc m) c es (met_in (seq T (suc m) fs ls) p ++ waiting) →
      Related T (state_of rows stack (suc n) cl ats) (ob (seq T (suc m) fs ls) p ∷ waiting)
