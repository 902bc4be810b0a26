-- Where each table begins in the working memory while a sheet is made from its text, and how many numbers there are. Assumes nothing.
use Rattle.std.specs.Prelude.{ℕ}

abbrev pub nodes_at : ℕ
nodes_at = 0

abbrev pub types_at : ℕ
types_at = 10240

abbrev pub scope_at : ℕ
scope_at = 11264

abbrev pub halves_at : ℕ
halves_at = 13312

abbrev pub clauses_at : ℕ
clauses_at = 21504

abbrev pub cells_at : ℕ
cells_at = 23552

abbrev pub frames_at : ℕ
frames_at = 30720

abbrev pub type_count_at : ℕ
type_count_at = 31232

abbrev pub node_count_at : ℕ
node_count_at = 31233

abbrev pub put_count_at : ℕ
put_count_at = 31234

abbrev pub clause_count_at : ℕ
clause_count_at = 31235

abbrev pub second_at_lem : ℕ
second_at_lem = 31236

abbrev pub levels_at : ℕ
levels_at = 31744

abbrev pub making_size : ℕ
making_size = 32768
