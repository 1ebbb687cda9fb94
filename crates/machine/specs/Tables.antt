-- The chunks, and the saved rows of sf, of the open obligations, as many entries of a table for each as an obligation may have chunks, or a
-- world rows of sf; and what a move makes of them and of the rows of facts.
use Rattle.std.specs.Prelude.{ℕ, ◌+◌, ◌-◌, ◌*◌, Bool, List, get_or, set, replicate, leb}
use Rattle.scope.specs.Limits.{most_principals, most_clauses, most_open, most_chunks}
use Rattle.facts.specs.Fill.{fill}
use Rattle.facts.specs.Rows.{sf_rows, put_sf, grown_le, grown_by, noted}
use Rattle.moves.specs.declared.Phase.{Phase}
use Rattle.moves.specs.declared.Move.{Move}
use Rattle.moves.specs.declared.Move.TheVariants as move
use Rattle.moves.specs.Steps.{pick}
use Rattle.machine.specs.declared.Obligation.{Obligation}
use Rattle.machine.specs.Change.{chunk_count, goal_in}

-- The open obligations, and one place more, which is never read; and the same of the clauses.
abbrev pub places : ℕ
places = most_open + 1

abbrev pub clause_places : ℕ
clause_places = most_clauses + 1

-- Of w entries for each place, those at a place, and a table with such entries put there.
unfoldable pub block : ℕ → List ℕ → ℕ → List ℕ
unfolding fill
block w l place = fill (λ i. get_or l (place * w + i) 0) 0 w (replicate w 0)

unfoldable pub put_block : ℕ → List ℕ → ℕ → List ℕ → List ℕ
unfolding fill
put_block w l place held = fill (λ i. get_or held i 0) (place * w) w l

-- The topmost chunk.
unfoldable pub top_chunk : List ℕ → ℕ → Phase → ℕ
unfolding chunk_count
top_chunk l place p = get_or l (place * most_chunks + (chunk_count p - 1)) 0

-- Of n chunks, two in the topmost one's place, f on top of h.
unfoldable pub split_chunks : List ℕ → ℕ → ℕ → ℕ → ℕ → List ℕ
split_chunks l place n f h = set (set l (place * most_chunks + (n - 1)) h) (place * most_chunks + n) f

-- The same chunks one place above, and another topmost one in each.
unfoldable pub case_chunks : List ℕ → ℕ → ℕ → ℕ → ℕ → List ℕ
unfolding block put_block
case_chunks l place n f h =
    set (set (put_block most_chunks l (place + 1) (block most_chunks l place)) (place * most_chunks + (n - 1)) h) ((place + 1) * most_chunks + (n - 1)) f

unfoldable pub chunks_after : Move → ℕ → ℕ → List ℕ → List ℕ
unfolding split_chunks case_chunks
chunks_after move.Close n place l = l
chunks_after (move.Go f) n place l = l
chunks_after (move.Aim f v) n place l = l
chunks_after (move.Both f h) n place l = l
chunks_after (move.Meet f h v) n place l = l
chunks_after (move.Less f h) n place l = set l (place * most_chunks + 0) f
chunks_after (move.Speak a f) n place l = l
chunks_after move.Push n place l = l
chunks_after move.Drop n place l = l
chunks_after (move.Note a b) n place l = l
chunks_after (move.Split f h) n place l = split_chunks l place n f h
chunks_after (move.Case f h) n place l = case_chunks l place n f h

-- Where one more is open, the one below it waits with the rows of sf of its newest world.
unfoldable pub saved_after : ℕ → ℕ → List ℕ → ℕ → List ℕ → List ℕ
unfolding pick put_block sf_rows
saved_after opened more rows worlds saved = pick (leb more opened) saved (put_block most_principals saved (opened - 1) (sf_rows rows (worlds - 1)))

-- The rows of facts, in the logic unit or plain: a new world, a note, or the saved rows of sf of the obligation that is current next.
unfoldable pub rows_after : Bool → Move → Obligation → Obligation → List ℕ → List ℕ → List ℕ
unfolding goal_in grown_le grown_by noted put_sf
rows_after unit move.Close o next kept rows = put_sf rows (next.worlds - 1) kept
rows_after unit (move.Go f) o next kept rows = rows
rows_after unit (move.Aim f v) o next kept rows = rows
rows_after unit (move.Both f h) o next kept rows = rows
rows_after unit (move.Meet f h v) o next kept rows = rows
rows_after unit (move.Less f h) o next kept rows = grown_le rows (goal_in o.phase).at.0 o.worlds
rows_after unit (move.Speak a f) o next kept rows = grown_by unit rows a.0 (goal_in o.phase).at.0 o.worlds
rows_after unit move.Push o next kept rows = rows
rows_after unit move.Drop o next kept rows = rows
rows_after unit (move.Note a b) o next kept rows = noted rows (o.worlds - 1) a.0 b.0
rows_after unit (move.Split f h) o next kept rows = rows
rows_after unit (move.Case f h) o next kept rows = rows
