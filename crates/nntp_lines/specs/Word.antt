-- Words, as the arguments of commands are (RFC 3977, 9.8, "token"). The limits of length are given with each kind of word.
use Rattle.std.specs.Prelude.{ℕ, ◌≤◌, Bool, List, length, IsTrue}
use Rattle.std.specs.List.{list_all}

-- 1 to `most` bytes, all of which may stand in such a word
pub record IsWord (may_stand : ℕ → Bool) (most : ℕ) (bytes : List ℕ) : Type 0 where
  pub some : 1 ≤ length bytes
  pub short : length bytes ≤ most
  pub all : IsTrue (list_all may_stand bytes)
