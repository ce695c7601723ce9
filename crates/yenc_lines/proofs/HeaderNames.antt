-- A name is found again at the end of a header line as it is.
use Rattle.std.proofs.Common.{◌≡◌, ℕ, ◌-◌, ◌≤◌, true, false, not, leb, ◌&&◌, ◌==◌, List, length, slice_index, ◌∙◌, arith}
use Rattle.std.specs.List.{prefix_len, suffix_len}
use Rattle.std.proofs.lemmas.Bool.{le-leb, and_from, and_parts}
use Rattle.std.proofs.lemmas.Bool.Decides.{nat_tests}
use Rattle.std.proofs.lemmas.List.{take_all}
use Rattle.std.proofs.lemmas.List.Sums.{prefix_len-drop_no, suffix_len_is}
use Rattle.yenc_lines.specs.Keywords.{is_space, trimmed}
use Rattle.yenc_lines.specs.Name.{IsName, has_no_line_end}
use Rattle.yenc_lines.proofs.WrittenItems.{IsHeaderName}

not_space : (x : ℕ) → not (x == 32) ≡ true → is_space x ≡ false
not_space x h = grind (arith, nat_tests)

no_prefix : (name : List ℕ) → 1 ≤ length name → is_space (slice_index name 0) ≡ false → prefix_len is_space name ≡ 0
no_prefix name some h = prefix_len-drop_no is_space name 0 0 some h

no_suffix : (name : List ℕ) → is_space (slice_index name (length name - 1)) ≡ false → suffix_len is_space name ≡ 0
no_suffix name h =
    let none : length name - length name ≡ 0 = omega arith in
    suffix_len_is is_space name (length name) 0 (omega arith) (λ k from below. absurd (omega arith)) (λ some. h) ∙ none

as_it_is : (name : List ℕ) → prefix_len is_space name ≡ 0 → suffix_len is_space name ≡ 0 → trimmed name ≡ name
as_it_is name front back =
    let all : length name - 0 ≡ length name = omega arith in
    rw front (rw back (rw all (take_all (length name) name (omega arith))))

pub header_name : (name : List ℕ) → IsName name → IsHeaderName name
header_name name h =
    let ends = and_parts (not (slice_index name 0 == 32)) (not (slice_index name (length name - 1) == 32)) h.trimmed in
    record {
      fits = and_from (leb 1 (length name) && leb (length name) 255) (has_no_line_end name) (and_from (leb 1 (length name)) (leb (length name) 255) (le-leb 1 (length name) h.some) (le-leb (length name) 255 h.most)) h.no_line_end;
      no_space_at_ends = as_it_is name (no_prefix name h.some (not_space (slice_index name 0) ends.0)) (no_suffix name (not_space (slice_index name (length name - 1)) ends.1));
    }
