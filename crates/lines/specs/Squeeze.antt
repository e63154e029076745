-- The line reader: of a line only the first 260 bytes are kept, and what is handed over piece by piece are whole lines.
-- Assumes nothing.
use Rattle.std.specs.Prelude.{cond, List, [], ◌∷◌, ◌++◌, ℕ, suc, ◌-◌, eqb, ltb, length, take, drop}
use Rattle.table.specs.Lines.{lines}

-- bytes of an input
abbrev pub Bytes : Type 0
Bytes = List ℕ

-- how many bytes of the line are kept after one more byte; 0A begins a new line
unfoldable pub next_run : ℕ → ℕ → ℕ
next_run run b = cond (eqb b 10) 0 (cond (ltb run 260) (suc run) run)

-- the byte, if it is kept: 0A, or one of the first 260 of its line
unfoldable pub kept : ℕ → ℕ → Bytes
kept run b = cond (eqb b 10) (b ∷ []) (cond (ltb run 260) (b ∷ []) [])

-- the bytes with every line cut to its first 260, and how many of the last line are kept after them, where `run` bytes of
-- the current line were kept before
unfoldable pub squeezed : ℕ → Bytes → Bytes
squeezed run [] = []
squeezed run (b ∷ x) = kept run b ++ squeezed (next_run run b) x

-- how many bytes of the last line are kept
unfoldable pub run_after : ℕ → Bytes → ℕ
run_after run [] = run
run_after run (b ∷ x) = run_after (next_run run b) x

-- a block taken in behind the unfinished line u: the bytes, the whole lines of them, and the unfinished line after them
unfoldable pub taken_in : Bytes → Bytes → Bytes
taken_in u b = u ++ squeezed (length u) b

-- how many bytes its whole lines have
unfoldable pub whole_length : Bytes → Bytes → ℕ
whole_length u b = length (taken_in u b) - run_after (length u) b

-- What is handed over, piece by piece, of blocks of input behind the unfinished line u: the whole lines of each block;
-- and the unfinished line after them, which is handed over at the end of the input.
unfoldable pub handed_over : Bytes → List Bytes → List Bytes
handed_over u [] = []
handed_over u (b ∷ bs) = take (whole_length u b) (taken_in u b) ∷ handed_over (drop (whole_length u b) (taken_in u b)) bs

-- the unfinished line after these blocks
unfoldable pub unfinished : Bytes → List Bytes → Bytes
unfinished u [] = u
unfinished u (b ∷ bs) = unfinished (drop (whole_length u b) (taken_in u b)) bs

-- all that is handed over
unfoldable pub handed : Bytes → List Bytes → List Bytes
handed u bs = handed_over u bs ++ (unfinished u bs ∷ [])

-- the lines of all pieces
unfoldable pub all_lines : List Bytes → List Bytes
all_lines [] = []
all_lines (x ∷ xs) = lines x ++ all_lines xs

-- the blocks as one input
unfoldable pub together : List Bytes → Bytes
together [] = []
together (x ∷ xs) = x ++ together xs
