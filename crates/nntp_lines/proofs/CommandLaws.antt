-- A command is one line of printable characters.
use Rattle.std.proofs.Common.{◌≡◌, ◌<◌, ℕ, ◌^◌, Bool, true, List, [], ◌∷◌, ◌++◌, refl, ◌∙◌, arith}
use Rattle.std.specs.Prelude.{codes, decimal}
use Rattle.std.specs.List.{list_all}
use Rattle.std.specs.Char.{digit_value, is_ascii_graphic}
use Rattle.std.specs.Str.Parse.{AllDigits}
use Rattle.std.proofs.lemmas.Bool.{and_from, and_parts}
use Rattle.std.proofs.lemmas.Bool.Decides.{nat_tests}
use Rattle.std.proofs.lemmas.List.Folds.{list_all-append}
use Rattle.std.proofs.lemmas.Fmt.{decimal_is_IsNumeral}
use Rattle.nntp_lines.specs.declared.command.Command.{Command}
use Rattle.nntp_lines.specs.declared.command.Command.TheVariants.{Body, Stat, Group, Over, Post, Quit, User, Pass}
use Rattle.nntp_lines.specs.MessageId.{is_id_byte}
use Rattle.nntp_lines.specs.GroupName.{is_group_byte}
use Rattle.nntp_lines.specs.Command.{command_line, HasValidWords, HasArticleNumbers, is_printable}

abbrev pub IsPrintable : List ℕ → Type 0
IsPrintable text = list_all is_printable text ≡ true

-- ---- texts

append_printable : (a b : List ℕ) → IsPrintable a → IsPrintable b → IsPrintable (a ++ b)
append_printable a b pa pb = list_all-append is_printable a b ∙ and_from (list_all is_printable a) (list_all is_printable b) pa pb

all_printable : (may_stand : ℕ → Bool) (implied : (byte : ℕ) → may_stand byte ≡ true → is_printable byte ≡ true) (bytes : List ℕ) → list_all may_stand bytes ≡ true → IsPrintable bytes
all_printable may_stand implied [] all = refl
all_printable may_stand implied (byte ∷ bytes) all =
    let parts = and_parts (may_stand byte) (list_all may_stand bytes) all in
    and_from (is_printable byte) (list_all is_printable bytes) (implied byte parts.0) (all_printable may_stand implied bytes parts.1)

id_byte_printable : (byte : ℕ) → is_id_byte byte ≡ true → is_printable byte ≡ true
id_byte_printable byte h = grind (arith, nat_tests)

group_byte_printable : (byte : ℕ) → is_group_byte byte ≡ true → is_printable byte ≡ true
group_byte_printable byte h = grind (arith, nat_tests)

graphic_printable : (byte : ℕ) → is_ascii_graphic byte ≡ true → is_printable byte ≡ true
graphic_printable byte h = grind (arith, nat_tests)

digit_printable : (byte : ℕ) → digit_value byte < 10 → is_printable byte ≡ true
digit_printable byte h = grind (arith, nat_tests)

digits_printable : (digits : List ℕ) → AllDigits 10 digits → IsPrintable digits
digits_printable [] h = refl
digits_printable (d ∷ ds) h = and_from (is_printable d) (list_all is_printable ds) (digit_printable d h.0) (digits_printable ds h.1)

decimal_printable : (n : ℕ) → n < 2 ^ 64 → IsPrintable (decimal n)
decimal_printable n h = digits_printable (decimal n) (decimal_is_IsNumeral n h).0.1

-- ---- commands

pub line_printable : (command : Command) → HasValidWords command → HasArticleNumbers command → IsPrintable (command_line command)
line_printable (Body id) w n = append_printable (codes "BODY <" ++ id.now) (codes ">") (append_printable (codes "BODY <") id.now refl (all_printable is_id_byte id_byte_printable id.now w.all)) refl
line_printable (Stat id) w n = append_printable (codes "STAT <" ++ id.now) (codes ">") (append_printable (codes "STAT <") id.now refl (all_printable is_id_byte id_byte_printable id.now w.all)) refl
line_printable (Group name) w n = append_printable (codes "GROUP ") name.now refl (all_printable is_group_byte group_byte_printable name.now w.all)
line_printable (Over first last) w n =
    append_printable (codes "OVER " ++ decimal first ++ codes "-") (decimal last)
    (append_printable (codes "OVER " ++ decimal first) (codes "-") (append_printable (codes "OVER ") (decimal first) refl (decimal_printable first (omega (arith, n)))) refl)
    (decimal_printable last (omega (arith, n)))
line_printable Post w n = refl
line_printable Quit w n = refl
line_printable (User name) w n = append_printable (codes "AUTHINFO USER ") name.now refl (all_printable is_ascii_graphic graphic_printable name.now w.all)
line_printable (Pass word) w n = append_printable (codes "AUTHINFO PASS ") word.now refl (all_printable is_ascii_graphic graphic_printable word.now w.all)
