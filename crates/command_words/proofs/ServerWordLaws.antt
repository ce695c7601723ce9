-- A value of `--server` names a server exactly where it is the word of one.
use Rattle.std.proofs.Common.{◌≡◌, ℕ, ◌==◌, Bool, true, false, List, [], ◌∷◌, ◌++◌, Option, Some, None, refl, sym, ◌∙◌, ap, arith, subst, append_assoc}
use Rattle.std.specs.Prelude.{All, MatchOption, ◌↔◌, if◌then◌else◌}
use Rattle.std.specs.Char.{is_ascii_digit}
use Rattle.std.specs.List.{list_all}
use Rattle.std.specs.Option.{option_and_then, option_map}
use Rattle.std.proofs.lemmas.Bool.{cond-false, cond-true}
use Rattle.std.proofs.lemmas.Bool.Decides.{nat_tests}
use Rattle.std.proofs.lemmas.List.{append-nil}
use Rattle.std.proofs.lemmas.List.Elements.{All-append, All-cons, All-head, All-nil, All-tail}
use Rattle.numbers.specs.Numbers.{decimal_of, within}
use Rattle.server_logins.specs.Cut.{cut_at}
use Rattle.server_logins.specs.Server.{IsServer, is_host_byte, is_server}
use Rattle.server_logins.proofs.CutLaws.{IsWhole, cut_found, cut_says}
use Rattle.server_logins.proofs.ServerLaws.{server_from_test, test_from_server}
use Rattle.server_logins.proofs.WordTests.{digits_in, misses}
use Rattle.command_words.specs.Keys.{has_leading_zero, number_in}
use Rattle.command_words.specs.Servers.{IsServerWord, SaysNumber, ServerAsked, marked_of, marked_of_cut, server_at, server_of}

some_same : {A : Type 0} {x y : A} → Some x ≡ Some y → x ≡ y
some_same same = cc

-- ---- what is read is said

-- a text that ends with what says a number
record Marks (mark least most default : ℕ) (text : List ℕ) (marked : List ℕ × ℕ) : Type 0 where
  behind : List ℕ
  whole : text ≡ marked.0 ++ behind
  says : SaysNumber mark least most default behind marked.1

marked_says : (mark least most default : ℕ) (text : List ℕ) (marked : List ℕ × ℕ) → marked_of mark least most default text ≡ Some marked → Marks mark least most default text marked
marked_says mark least most default text marked is = by_cut (cut_at mark text) (cut_says mark text) is
  where
    by_number : (cut : List ℕ × List ℕ) → IsWhole mark text cut → (number : Option ℕ) → number_in least most cut.1 ≡ number → option_map (λ n. (cut.0, n)) number ≡ Some marked
        → Marks mark least most default text marked
    by_number cut whole None number_is is = cc
    by_number cut whole (Some number) number_is is =
        subst (λ (m : List ℕ × ℕ). Marks mark least most default text m) (some_same is) (record { behind = mark ∷ cut.1; whole = whole; says = (refl, number_is) })

    by_cut : (cut : Option (List ℕ × List ℕ)) → MatchOption cut (Unit {0}) (IsWhole mark text) → marked_of_cut least most default text cut ≡ Some marked → Marks mark least most default text marked
    by_cut None whole is = subst (λ (m : List ℕ × ℕ). Marks mark least most default text m) (some_same is) (record { behind = []; whole = sym (append-nil text); says = refl })
    by_cut (Some cut) whole is = by_number cut whole (number_in least most cut.1) refl is

by_test : (value : List ℕ) (server : ServerAsked) (leveled linked : List ℕ × ℕ) → Marks 64 0 9 0 value leveled → Marks 42 1 64 1 leveled.0 linked → (test : Bool) → is_server linked.0 ≡ test
    → (if test then Some (record { address = linked.0; links = linked.1; level = leveled.1 }) else None) ≡ Some server → IsServerWord value server
by_test value server leveled linked level links true passed is =
    subst (λ (s : ServerAsked). IsServerWord value s) (some_same is)
    (record {
      links_text = links.behind;
      level_text = level.behind;
      whole = level.whole ∙ ap (λ l. l ++ level.behind) links.whole;
      address = server_from_test linked.0 passed;
      links = links.says;
      level = level.says;
    })
by_test value server leveled linked level links false failed is = cc

by_links : (value : List ℕ) (server : ServerAsked) (leveled : List ℕ × ℕ) → Marks 64 0 9 0 value leveled → (linked : Option (List ℕ × ℕ)) → marked_of 42 1 64 1 leveled.0 ≡ linked
    → option_and_then (server_at leveled.1) linked ≡ Some server → IsServerWord value server
by_links value server leveled level None linked_is is = cc
by_links value server leveled level (Some linked) linked_is is = by_test value server leveled linked level (marked_says 42 1 64 1 leveled.0 linked linked_is) (is_server linked.0) refl is

by_level : (value : List ℕ) (server : ServerAsked) (leveled : Option (List ℕ × ℕ)) → marked_of 64 0 9 0 value ≡ leveled
    → option_and_then (λ (m : List ℕ × ℕ). option_and_then (server_at m.1) (marked_of 42 1 64 1 m.0)) leveled ≡ Some server → IsServerWord value server
by_level value server None leveled_is is = cc
by_level value server (Some leveled) leveled_is is = by_links value server leveled (marked_says 64 0 9 0 value leveled leveled_is) (marked_of 42 1 64 1 leveled.0) refl is

-- ---- what is said is read

cut_nowhere : (byte : ℕ) (text : List ℕ) → All (λ x. (x == byte) ≡ false) text → cut_at byte text ≡ None
cut_nowhere byte [] none = refl
cut_nowhere byte (x ∷ text) none =
    cond-false (x == byte) (Some ([], text)) (option_map (λ (c : List ℕ × List ℕ). (x ∷ c.0, c.1)) (cut_at byte text)) (All-head (λ y. (y == byte) ≡ false) x text none)
    ∙ ap (option_map (λ (c : List ℕ × List ℕ). (x ∷ c.0, c.1))) (cut_nowhere byte text (All-tail (λ y. (y == byte) ≡ false) x text none))

marked_found : (mark least most default : ℕ) (front behind : List ℕ) (number : ℕ) → All (λ x. (x == mark) ≡ false) front → SaysNumber mark least most default behind number
    → marked_of mark least most default (front ++ behind) ≡ Some (front, number)
marked_found mark least most default front [] number none says =
    ap (marked_of mark least most default) (append-nil front) ∙ ap (marked_of_cut least most default front) (cut_nowhere mark front none) ∙ ap (λ n. Some (front, n)) (sym says)
marked_found mark least most default front (byte ∷ digits) number none says =
    ap (λ b. marked_of mark least most default (front ++ b ∷ digits)) says.0
    ∙ ap (marked_of_cut least most default (front ++ mark ∷ digits)) (cut_found mark front digits none)
    ∙ ap (option_map (λ n. (front, n))) says.1

-- ---- no mark stands in an address, and none of a level in what says how many links

host_no_star : (x : ℕ) → is_host_byte x ≡ true → (x == 42) ≡ false
host_no_star x h = grind (arith, nat_tests)

host_no_at : (x : ℕ) → is_host_byte x ≡ true → (x == 64) ≡ false
host_no_at x h = grind (arith, nat_tests)

digit_no_star : (x : ℕ) → is_ascii_digit x ≡ true → (x == 42) ≡ false
digit_no_star x h = grind (arith, nat_tests)

digit_no_at : (x : ℕ) → is_ascii_digit x ≡ true → (x == 64) ≡ false
digit_no_at x h = grind (arith, nat_tests)

server_misses : (byte : ℕ) → ((x : ℕ) → is_host_byte x ≡ true → (x == byte) ≡ false) → ((x : ℕ) → is_ascii_digit x ≡ true → (x == byte) ≡ false) → (58 == byte) ≡ false → (text : List ℕ) → IsServer text
    → All (λ x. (x == byte) ≡ false) text
server_misses byte no_host no_digit no_colon text server =
    let P : ℕ → Type 0 = λ x. (x == byte) ≡ false in
    rw (server.whole, append_assoc)
    (All-append P server.host (58 ∷ server.port) (misses is_host_byte byte no_host server.host server.host_valid.all)
    (All-cons P 58 server.port no_colon (misses is_ascii_digit byte no_digit server.port (digits_in server.port server.port_valid.number server.port_valid.digits))))

digits_of_number : (least most : ℕ) (digits : List ℕ) (number : ℕ) → number_in least most digits ≡ Some number → list_all is_ascii_digit digits ≡ true
digits_of_number least most digits number is = chosen (has_leading_zero digits) (decimal_of digits) refl is
  where
    chosen : (zero : Bool) (value : Option ℕ) → decimal_of digits ≡ value → (if zero then None else within least most value) ≡ Some number → list_all is_ascii_digit digits ≡ true
    chosen true value value_is is = cc
    chosen false None value_is is = cc
    chosen false (Some value) value_is is = digits_in digits value value_is

links_miss_at : (behind : List ℕ) (number : ℕ) → SaysNumber 42 1 64 1 behind number → All (λ x. (x == 64) ≡ false) behind
links_miss_at [] number says = All-nil (λ x. (x == 64) ≡ false)
links_miss_at (byte ∷ digits) number says =
    All-cons (λ x. (x == 64) ≡ false) byte digits (ap (λ b. b == 64) says.0) (misses is_ascii_digit 64 digit_no_at digits (digits_of_number 1 64 digits number says.1))

word_read : (value : List ℕ) (server : ServerAsked) → IsServerWord value server → server_of value ≡ Some server
word_read value server is =
    let no_at = All-append (λ x. (x == 64) ≡ false) server.address is.links_text (server_misses 64 host_no_at digit_no_at refl server.address is.address) (links_miss_at is.links_text server.links is.links) in
    ap server_of is.whole
    ∙ ap (option_and_then (λ (m : List ℕ × ℕ). option_and_then (server_at m.1) (marked_of 42 1 64 1 m.0))) (marked_found 64 0 9 0 (server.address ++ is.links_text) is.level_text server.level no_at is.level)
    ∙ ap (option_and_then (server_at server.level)) (marked_found 42 1 64 1 server.address is.links_text server.links (server_misses 42 host_no_star digit_no_star refl server.address is.address) is.links)
    ∙ cond-true (is_server server.address) (Some server) None (test_from_server server.address is.address)

pub server_words_are_read : (value : List ℕ) (server : ServerAsked) → (server_of value ≡ Some server) ↔ IsServerWord value server
server_words_are_read value server = (λ is. by_level value server (marked_of 64 0 9 0 value) refl is, λ word. word_read value server word)
