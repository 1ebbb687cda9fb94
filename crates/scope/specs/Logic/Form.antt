-- Formulas, and document 01's section 'Which formulas may stand where'.
use Rattle.std.specs.Prelude.{ℕ, Bool, true, false}

-- p ATOM, top, bot, and F F, or F F, imp F F, says PRINCIPAL F, sf PRINCIPAL PRINCIPAL
pub data Form : Type 0 where
  atom : ℕ → Form
  top : Form
  bot : Form
  and : Form → Form → Form
  or : Form → Form → Form
  imp : Form → Form → Form
  says : ℕ → Form → Form
  sf : ℕ → ℕ → Form

unfoldable pub both : Bool → Bool → Bool
both true b = b
both false b = false

unfoldable pub either : Bool → Bool → Bool
either true b = true
either false b = b

unfoldable pub negate : Bool → Bool
negate true = false
negate false = true

-- The three classes. They call upon each other, each on the parts of a formula.
unfoldable mutual
  unfolding both

  -- Goal: `p`, `top`, `bot`, `sf`; `and`, `or` of goals; `says` of a goal; `imp` from a chunk to a goal
  pub is_goal : Form → Bool
  is_goal (atom p) = true
  is_goal top = true
  is_goal bot = true
  is_goal (and f g) = both (is_goal f) (is_goal g)
  is_goal (or f g) = both (is_goal f) (is_goal g)
  is_goal (imp f g) = both (is_chunk f) (is_goal g)
  is_goal (says a f) = is_goal f
  is_goal (sf a b) = true

  -- Clause: `p`, `top`; `and` of clauses; `says` of a clause; `imp` from a goal to a clause
  pub is_clause : Form → Bool
  is_clause (atom p) = true
  is_clause top = true
  is_clause bot = false
  is_clause (and f g) = both (is_clause f) (is_clause g)
  is_clause (or f g) = false
  is_clause (imp f g) = both (is_goal f) (is_clause g)
  is_clause (says a f) = is_clause f
  is_clause (sf a b) = false

  -- Chunk: a clause, `sf`, `bot`; `and`, `or` of chunks
  pub is_chunk : Form → Bool
  is_chunk (atom p) = true
  is_chunk top = true
  is_chunk bot = true
  is_chunk (and f g) = both (is_chunk f) (is_chunk g)
  is_chunk (or f g) = both (is_chunk f) (is_chunk g)
  is_chunk (imp f g) = both (is_goal f) (is_clause g)
  is_chunk (says a f) = is_clause f
  is_chunk (sf a b) = true

unfoldable pub is_sf : Form → Bool
is_sf (atom p) = false
is_sf top = false
is_sf bot = false
is_sf (and f g) = false
is_sf (or f g) = false
is_sf (imp f g) = false
is_sf (says a f) = false
is_sf (sf a b) = true

-- A policy line is a clause or an `sf`.
unfoldable pub is_policy : Form → Bool
unfolding either is_clause is_sf
is_policy f = either (is_clause f) (is_sf f)

-- `push` an atom, `imp` or `says`
unfoldable pub is_pushed : Form → Bool
is_pushed (atom p) = true
is_pushed top = false
is_pushed bot = false
is_pushed (and f g) = false
is_pushed (or f g) = false
is_pushed (imp f g) = true
is_pushed (says a f) = true
is_pushed (sf a b) = false
