-- The logins of lines, one line after another.
use Rattle.std.proofs.Common.{◌≡◌, ◌≢◌, ℕ, zero, suc, ◌+◌, ◌-◌, ◌<◌, ◌≤◌, Bool, true, false, List, [], ◌∷◌, ◌++◌, length, get_or, take, drop, map, Option, None, Some, Ok, Err, refl, sym, ◌∙◌, ap, subst, inl, inr, arith, min, length-take, take-append-drop}
use Rattle.std.specs.Prelude.{All, Contains, filter, slice_get, ◌⊎◌, MatchOption}
use Rattle.std.specs.Str.{bytes_eq}
use Rattle.std.proofs.lemmas.Bool.{cases_Bool, cases_lt, cases_order, cond-true, cond-false, cond_both}
use Rattle.std.proofs.lemmas.Bool.Decides.{not_from_Decides}
use Rattle.std.proofs.lemmas.List.{append-nil, get_or-map, get_or-take, get_or_append_left, get_or_push, length-map, length_push, map_push, same_from_push, take-map, take-take, take_all, take_at}
use Rattle.std.proofs.lemmas.List.Elements.{All-head, All-nil, All-cons, All-push, All-tail, All-take, filter-append, filter_more}
use Rattle.std.proofs.lemmas.Option.{get_or_from_slice_get}
use Rattle.std.proofs.lemmas.Slice.Eq.{bytes_eq-Decides}
use Rattle.nntp_lines.specs.declared.login.Login.{Login}
use Rattle.server_logins.specs.LoginLine.{IsServerLogin, login_line_of, login_text}
use Rattle.server_logins.specs.Logins.{AddsLine, AreDistinct, AreLogins, FindsLogin, IsFirstBroken, AreNoLogins, LoginsAreOne, LoginsOrBroken, is_filled, login_in, servers_of, with_line, with_new, with_said}
use Rattle.server_logins.specs.declared.logins.LoginError.{LoginError}
use Rattle.server_logins.specs.declared.logins.LoginError.TheVariants as errors
use Rattle.server_logins.specs.declared.logins.ServerLogin.{ServerLogin}
use Rattle.server_logins.proofs.LineLaws.{Says, line_is_read, line_says, same_line}

-- ---- the login at a server

found_behind : (logins : List ServerLogin) (server : List ℕ) (first : ServerLogin) (found : Option Login) → first.server ≢ server → FindsLogin logins server found → FindsLogin (first ∷ logins) server found
found_behind logins server first None other finds = All-cons (λ entry. entry.server ≢ server) first logins other finds
found_behind logins server first (Some login) other finds = (finds.0, (suc finds.1.0, omega (arith, finds.1.1), finds.1.2), finds.2, finds.3)

-- the first that is at a server is its login, and where there is none it has none
pub finds_first : (server : List ℕ) (logins : List ServerLogin) → FindsLogin logins server (login_in server logins)
finds_first server [] = All-nil (λ entry. entry.server ≢ server)
finds_first server (first ∷ logins) =
    cond_both (bytes_eq first.server server) (Some first.login) (login_in server logins) (λ found. FindsLogin (first ∷ logins) server found)
    (λ same. (first, (0, omega arith, refl), (bytes_eq-Decides first.server server).0 same, refl))
    (λ other. found_behind logins server first (login_in server logins) (not_from_Decides (bytes_eq first.server server) (bytes_eq-Decides first.server server) other) (finds_first server logins))

pub finds_in : (logins entries : List ServerLogin) (server : List ℕ) (found : Option Login) → entries ≡ logins → found ≡ login_in server entries → FindsLogin logins server found
finds_in logins entries server found are is = subst (λ (f : Option Login). FindsLogin logins server f) (sym (is ∙ ap (login_in server) are)) (finds_first server logins)

-- ---- servers that differ

distinct_push : (texts : List (List ℕ)) (text : List ℕ) → AreDistinct texts → ((k : ℕ) → k < length texts → get_or texts k [] ≢ text) → AreDistinct (texts ++ text ∷ [])
distinct_push texts text distinct new i j less inside =
    let short : j < length texts + 1 = omega (arith, inside, length_push texts text) in
    elim (cases_lt j (length texts)) [
      | inl lt ↦ λ same. distinct i j less lt (sym (get_or_append_left texts (text ∷ []) [] i (omega arith)) ∙ same ∙ get_or_append_left texts (text ∷ []) [] j lt)
      | inr past ↦ λ same. new i (omega arith) (sym (get_or_append_left texts (text ∷ []) [] i (omega arith)) ∙ same ∙ get_or_push texts text [] j (omega arith))
    ]

distinct_last : (texts : List (List ℕ)) (text : List ℕ) → AreDistinct (texts ++ text ∷ []) → (k : ℕ) → k < length texts → get_or texts k [] ≢ text
distinct_last texts text distinct k lt same =
    distinct k (length texts) lt (omega (arith, length_push texts text))
    (get_or_append_left texts (text ∷ []) [] k lt ∙ same ∙ sym (get_or_push texts text [] (length texts) refl))

server_at : (logins : List ServerLogin) (k : ℕ) (entry : ServerLogin) → k < length logins → get_or (servers_of logins) k [] ≡ (get_or logins k entry).server
server_at logins k entry lt = get_or-map (λ (e : ServerLogin). e.server) logins k entry [] lt

no_server : (logins : List ServerLogin) (server : List ℕ) (entry : ServerLogin) → All (λ e. e.server ≢ server) logins → (k : ℕ) → k < length (servers_of logins) → get_or (servers_of logins) k [] ≢ server
no_server logins server entry none k lt same =
    let inside : k < length logins = omega (arith, lt, length-map logins (λ (e : ServerLogin). e.server)) in
    none k entry inside (sym (server_at logins k entry inside) ∙ same)

-- ---- one more line

adds : (lines : List (List ℕ)) (i : ℕ) (logins : List ServerLogin) (entry : ServerLogin) → i < length lines → AreLogins (take i lines) logins → is_filled (get_or lines i []) ≡ true
    → Says (get_or lines i []) entry → All (λ e. e.server ≢ entry.server) logins → AreLogins (take (i + 1) lines) (logins ++ entry ∷ [])
adds lines i logins entry lt are filled says new = record {
  said = filter_more is_filled lines i [] lt
      ∙ ap (λ l. filter is_filled (take i lines) ++ l) (cond-true (is_filled (get_or lines i [])) (get_or lines i [] ∷ []) [] filled)
      ∙ ap (λ l. l ++ get_or lines i [] ∷ []) are.said
      ∙ ap (λ l. map login_text logins ++ l ∷ []) says.1
      ∙ sym (map_push login_text logins entry);
  valid = All-push IsServerLogin logins entry are.valid says.0;
  distinct = let servers : servers_of (logins ++ entry ∷ []) ≡ servers_of logins ++ entry.server ∷ [] = map_push (λ (e : ServerLogin). e.server) logins entry in
      subst (λ l. AreDistinct l) (sym servers) (distinct_push (servers_of logins) entry.server are.distinct (no_server logins entry.server entry new));
}

passes_over : (lines : List (List ℕ)) (i : ℕ) (logins : List ServerLogin) → i < length lines → AreLogins (take i lines) logins → is_filled (get_or lines i []) ≡ false → AreLogins (take (i + 1) lines) logins
passes_over lines i logins lt are empty = record {
  said = filter_more is_filled lines i [] lt
      ∙ ap (λ l. filter is_filled (take i lines) ++ l) (cond-false (is_filled (get_or lines i [])) (get_or lines i [] ∷ []) [] empty)
      ∙ append-nil (filter is_filled (take i lines))
      ∙ are.said;
  valid = are.valid;
  distinct = are.distinct;
}

-- ---- a line that breaks a rule

unmapped : (logins : List ServerLogin) (texts : List (List ℕ)) (text : List ℕ) → map login_text logins ≡ texts ++ text ∷ []
    → (front : List ServerLogin) × (last : ServerLogin) × (logins ≡ front ++ last ∷ []) × (map login_text front ≡ texts) × (login_text last ≡ text)
unmapped [] texts text is = absurd (omega (arith, ap (λ (l : List (List ℕ)). length l) is, length_push texts text))
unmapped (entry ∷ []) texts text is = let parts = same_from_push [] texts (login_text entry) text is in ([], entry, refl, parts.0, parts.1)
unmapped (entry ∷ next ∷ logins) [] text is = absurd (omega (arith, ap (λ (l : List (List ℕ)). length l) is))
unmapped (entry ∷ next ∷ logins) (first ∷ texts) text is =
    let head : login_text entry ≡ first = cc in
    let tail : map login_text (next ∷ logins) ≡ texts ++ text ∷ [] = cc in
    let rest = unmapped (next ∷ logins) texts text tail in
    let front : map login_text rest.0 ≡ texts = rest.3 in
    (entry ∷ rest.0, rest.1, ap (λ l. entry ∷ l) rest.2, ap (λ l. login_text entry ∷ l) front ∙ ap (λ l. l ∷ texts) head, rest.4)

pub same_logins : (logins other : List ServerLogin) → All IsServerLogin logins → All IsServerLogin other → map login_text logins ≡ map login_text other → logins ≡ other
same_logins [] [] valid other_valid same = refl
same_logins [] (y ∷ other) valid other_valid same = cc
same_logins (x ∷ logins) [] valid other_valid same = cc
same_logins (x ∷ logins) (y ∷ other) valid other_valid same =
    let head : login_text x ≡ login_text y = cc in
    let tail : map login_text logins ≡ map login_text other = cc in
    let first = same_line x y (All-head IsServerLogin x logins valid) (All-head IsServerLogin y other other_valid) head in
    let rest = same_logins logins other (All-tail IsServerLogin x logins valid) (All-tail IsServerLogin y other other_valid) tail in
    ap (λ l. x ∷ l) rest ∙ ap (λ l. l ∷ other) first

-- what logins of the lines with one more would say of it: they are those of the lines before it, and one more
pub record IsBehind (lines : List (List ℕ)) (i : ℕ) (logins : List ServerLogin) : Type 0 where
  pub last : ServerLogin
  pub valid : IsServerLogin last
  pub said : login_text last ≡ get_or lines i []
  pub distinct : AreDistinct (servers_of logins ++ last.server ∷ [])

is_behind : (lines : List (List ℕ)) (i : ℕ) (logins other : List ServerLogin) → i < length lines → AreLogins (take i lines) logins → is_filled (get_or lines i []) ≡ true
    → AreLogins (take (i + 1) lines) other → IsBehind lines i logins
is_behind lines i logins other lt are filled with_it =
    let texts : map login_text other ≡ map login_text logins ++ get_or lines i [] ∷ [] =
    sym with_it.said ∙ filter_more is_filled lines i [] lt
    ∙ ap (λ l. filter is_filled (take i lines) ++ l) (cond-true (is_filled (get_or lines i [])) (get_or lines i [] ∷ []) [] filled)
    ∙ ap (λ l. l ++ get_or lines i [] ∷ []) are.said in
    let parts = unmapped other (map login_text logins) (get_or lines i []) texts in
    let all_valid : All IsServerLogin (parts.0 ++ parts.1 ∷ []) = subst (λ l. All IsServerLogin l) parts.2 with_it.valid in
    let front_valid : All IsServerLogin parts.0 = λ k d inside. subst (λ (e : ServerLogin). IsServerLogin e) (get_or_append_left parts.0 (parts.1 ∷ []) d k inside) (all_valid k d (omega (arith, inside, length_push parts.0 parts.1))) in
    let front : parts.0 ≡ logins = same_logins parts.0 logins front_valid are.valid parts.3 in
    let servers : servers_of other ≡ servers_of logins ++ parts.1.server ∷ [] =
    ap servers_of parts.2 ∙ map_push (λ (e : ServerLogin). e.server) parts.0 parts.1 ∙ ap (λ l. servers_of l ++ parts.1.server ∷ []) front in
    record {
      last = parts.1;
      valid = subst (λ (e : ServerLogin). IsServerLogin e) (get_or_push parts.0 parts.1 parts.1 (length parts.0) refl) (all_valid (length parts.0) parts.1 (omega (arith, length_push parts.0 parts.1)));
      said = parts.4;
      distinct = subst (λ l. AreDistinct l) servers with_it.distinct;
    }

pub first_broken : (lines : List (List ℕ)) (i : ℕ) (logins : List ServerLogin) → i < length lines → AreLogins (take i lines) logins → ((other : List ServerLogin) → ¬ AreLogins (take (i + 1) lines) other)
    → IsFirstBroken lines (i + 1)
first_broken lines i logins lt are none =
    let e : i ≡ i + 1 - 1 = omega arith in
    record { least = omega arith; most = omega arith; before = logins; kept = subst (λ k. AreLogins (take k lines) logins) e are; broken = none }

says_none : (lines : List (List ℕ)) (i : ℕ) (logins : List ServerLogin) → login_line_of (get_or lines i []) ≡ None → IsBehind lines i logins → ⊥
says_none lines i logins none behind =
    let read : login_line_of (get_or lines i []) ≡ Some behind.last = ap login_line_of (sym behind.said) ∙ line_is_read behind.last behind.valid in
    cc

repeats : (lines : List (List ℕ)) (i : ℕ) (logins : List ServerLogin) (entry : ServerLogin) (login : Login) → login_line_of (get_or lines i []) ≡ Some entry → FindsLogin logins entry.server (Some login)
    → IsBehind lines i logins → ⊥
repeats lines i logins entry login read finds behind =
    let again : login_line_of (get_or lines i []) ≡ Some behind.last = ap login_line_of (sym behind.said) ∙ line_is_read behind.last behind.valid in
    let same : entry ≡ behind.last = cc in
    let lt : finds.1.0 < length logins = finds.1.1 in
    distinct_last (servers_of logins) behind.last.server behind.distinct finds.1.0 (omega (arith, lt, length-map logins (λ (e : ServerLogin). e.server)))
    (server_at logins finds.1.0 finds.0 lt ∙ ap (λ (e : ServerLogin). e.server) finds.1.2 ∙ finds.2 ∙ ap (λ (e : ServerLogin). e.server) same)

-- ---- the taking of a line

keeps_new : (lines : List (List ℕ)) (i : ℕ) (logins more : List ServerLogin) (entry : ServerLogin) (found : Option Login) → i < length lines → AreLogins (take i lines) logins
    → is_filled (get_or lines i []) ≡ true → Says (get_or lines i []) entry → FindsLogin logins entry.server found → with_new logins entry found ≡ Some more → AreLogins (take (i + 1) lines) more
keeps_new lines i logins more entry None lt are filled says finds is =
    let e : logins ++ entry ∷ [] ≡ more = cc in
    subst (λ m. AreLogins (take (i + 1) lines) m) e (adds lines i logins entry lt are filled says finds)
keeps_new lines i logins more entry (Some login) lt are filled says finds is = cc

keeps_said : (lines : List (List ℕ)) (i : ℕ) (logins more : List ServerLogin) (said : Option ServerLogin) → i < length lines → AreLogins (take i lines) logins
    → is_filled (get_or lines i []) ≡ true → MatchOption said (Unit {0}) (Says (get_or lines i [])) → with_said logins said ≡ Some more → AreLogins (take (i + 1) lines) more
keeps_said lines i logins more None lt are filled says is = cc
keeps_said lines i logins more (Some entry) lt are filled says is = keeps_new lines i logins more entry (login_in entry.server logins) lt are filled says (finds_first entry.server logins) is

pub keeps : (lines : List (List ℕ)) (i : ℕ) (logins more : List ServerLogin) → i < length lines → AreLogins (take i lines) logins → with_line logins (get_or lines i []) ≡ Some more
    → AreLogins (take (i + 1) lines) more
keeps lines i logins more lt are is =
    elim (cases_Bool (is_filled (get_or lines i []))) [
      | inl filled ↦ keeps_said lines i logins more (login_line_of (get_or lines i [])) lt are filled (line_says (get_or lines i []))
          (sym (cond-true (is_filled (get_or lines i [])) (with_said logins (login_line_of (get_or lines i []))) (Some logins) filled) ∙ is)
      | inr empty ↦ let e : Some logins ≡ Some more = sym (cond-false (is_filled (get_or lines i [])) (with_said logins (login_line_of (get_or lines i []))) (Some logins) empty) ∙ is in
          let f : logins ≡ more = cc in
          subst (λ m. AreLogins (take (i + 1) lines) m) f (passes_over lines i logins lt are empty)
    ]

refuses_new : (lines : List (List ℕ)) (i : ℕ) (logins : List ServerLogin) (entry : ServerLogin) (found : Option Login) → login_line_of (get_or lines i []) ≡ Some entry → FindsLogin logins entry.server found
    → with_new logins entry found ≡ None → IsBehind lines i logins → ⊥
refuses_new lines i logins entry None read finds is behind = cc
refuses_new lines i logins entry (Some login) read finds is behind = repeats lines i logins entry login read finds behind

refuses_said : (lines : List (List ℕ)) (i : ℕ) (logins : List ServerLogin) (said : Option ServerLogin) → login_line_of (get_or lines i []) ≡ said → with_said logins said ≡ None → IsBehind lines i logins → ⊥
refuses_said lines i logins None read is behind = says_none lines i logins read behind
refuses_said lines i logins (Some entry) read is behind = refuses_new lines i logins entry (login_in entry.server logins) read (finds_first entry.server logins) is behind

pub refuses : (lines : List (List ℕ)) (i : ℕ) (logins : List ServerLogin) → i < length lines → AreLogins (take i lines) logins → with_line logins (get_or lines i []) ≡ None → IsFirstBroken lines (i + 1)
refuses lines i logins lt are is =
    elim (cases_Bool (is_filled (get_or lines i []))) [
      | inl filled ↦ first_broken lines i logins lt are (λ other with_it. refuses_said lines i logins (login_line_of (get_or lines i [])) refl
          (sym (cond-true (is_filled (get_or lines i [])) (with_said logins (login_line_of (get_or lines i []))) (Some logins) filled) ∙ is)
          (is_behind lines i logins other lt are filled with_it))
      | inr empty ↦ let e : Some logins ≡ None = sym (cond-false (is_filled (get_or lines i [])) (with_said logins (login_line_of (get_or lines i []))) (Some logins) empty) ∙ is in cc
    ]

pub line_kept : (lines : List (List ℕ)) (i : ℕ) (logins more : List ServerLogin) (line : List ℕ) (number : ℕ) → i < length lines → AreLogins (take i lines) logins → slice_get lines i ≡ Some line
    → AddsLine logins line number more (Ok tt) → AreLogins (take (i + 1) lines) more
line_kept lines i logins more line number lt are there adds = keeps lines i logins more lt are (ap (with_line logins) (get_or_from_slice_get lines i line [] there) ∙ adds)

pub line_refused : (lines : List (List ℕ)) (i : ℕ) (logins now : List ServerLogin) (line : List ℕ) (error : LoginError) → i < length lines → AreLogins (take i lines) logins → slice_get lines i ≡ Some line
    → AddsLine logins line (i + 1) now (Err error) → AreNoLogins lines error
line_refused lines i logins now line errors.Memory lt are there adds = tt
line_refused lines i logins now line (errors.Broken place) lt are there adds =
    subst (λ n. IsFirstBroken lines n) (sym adds.0) (refuses lines i logins lt are (ap (with_line logins) (get_or_from_slice_get lines i line [] there) ∙ adds.1))

-- no line has no login
pub no_logins : (lines : List (List ℕ)) → AreLogins (take 0 lines) []
no_logins lines = record { said = refl; valid = All-nil IsServerLogin; distinct = λ i j less inside. absurd (omega arith) }

-- ---- fronts of lines

take_distinct : (texts : List (List ℕ)) (n : ℕ) → AreDistinct texts → AreDistinct (take n texts)
take_distinct texts n distinct i j less inside same =
    let limit : j < min n (length texts) = omega (arith, inside, length-take n texts) in
    distinct i j less (omega arith) (sym (get_or-take n texts i [] (omega arith)) ∙ same ∙ get_or-take n texts j [] (omega arith))

-- lines in front of others that have logins have logins
front_logins : (lines : List (List ℕ)) (n : ℕ) (logins : List ServerLogin) → AreLogins lines logins → (front : List ServerLogin) × AreLogins (take n lines) front
front_logins lines n logins are =
    let first = filter is_filled (take n lines) in
    let others = filter is_filled (drop n lines) in
    let count = length first in
    let all : first ++ others ≡ map login_text logins = sym (filter-append is_filled (take n lines) (drop n lines)) ∙ ap (filter is_filled) (take-append-drop n lines) ∙ are.said in
    let servers : servers_of (take count logins) ≡ take count (servers_of logins) = sym (take-map (λ (e : ServerLogin). e.server) count logins) in (
      take count logins,
      record {
        said = sym (take_at first others count refl) ∙ ap (take count) all ∙ take-map login_text count logins;
        valid = All-take IsServerLogin count logins are.valid;
        distinct = subst (λ l. AreDistinct l) (sym servers) (take_distinct (servers_of logins) count are.distinct);
      },
    )

not_both : (lines : List (List ℕ)) (logins : List ServerLogin) (number : ℕ) → AreLogins lines logins → IsFirstBroken lines number → ⊥
not_both lines logins number are first =
    let front = front_logins lines number logins are in
    first.broken front.0 front.1

not_before : (lines : List (List ℕ)) (number other : ℕ) → number < other → IsFirstBroken lines number → IsFirstBroken lines other → ⊥
not_before lines number other lt first later =
    let front = front_logins (take (other - 1) lines) number later.before later.kept in
    first.broken front.0 (subst (λ l. AreLogins l front.0) (take-take number (other - 1) lines (omega arith)) front.1)

one_broken : (lines : List (List ℕ)) (number other : ℕ) → IsFirstBroken lines number → IsFirstBroken lines other → other ≡ number
one_broken lines number other first again =
    elim (cases_order number other) [
      | inl same ↦ sym same
      | inr differ ↦ elim differ [
        | inl lt ↦ absurd (not_before lines number other lt first again)
        | inr gt ↦ absurd (not_before lines other number gt again first)
      ]
    ]

-- ---- lines have logins or a first line that breaks a rule

-- the lines up to an index do
abbrev Stands : List (List ℕ) → ℕ → Type 0
Stands lines i = ((logins : List ServerLogin) × AreLogins (take i lines) logins) ⊎ ((number : ℕ) × IsFirstBroken lines number)

next_stands : (lines : List (List ℕ)) (i : ℕ) (logins : List ServerLogin) (more : Option (List ServerLogin)) → i < length lines → AreLogins (take i lines) logins → with_line logins (get_or lines i []) ≡ more → Stands lines (i + 1)
next_stands lines i logins None lt are is = inr (i + 1, refuses lines i logins lt are is)
next_stands lines i logins (Some more) lt are is = inl (more, keeps lines i logins more lt are is)

stands : (lines : List (List ℕ)) (i : ℕ) → i ≤ length lines → Stands lines i
stands lines zero inside = inl ([], no_logins lines)
stands lines (suc i) inside =
    let e : i + 1 ≡ suc i = omega arith in
    elim (stands lines i (omega arith)) [
      | inl before ↦ subst (λ k. Stands lines k) e (next_stands lines i before.0 (with_line before.0 (get_or lines i [])) (omega arith) before.1 refl)
      | inr broken ↦ inr broken
    ]

pub logins_are_one : LoginsAreOne
logins_are_one lines logins other are again = same_logins logins other are.valid again.valid (sym are.said ∙ again.said)

pub logins_or_broken : LoginsOrBroken
logins_or_broken lines =
    elim (stands lines (length lines) (omega arith)) [
      | inl all ↦ let are : AreLogins lines all.0 = subst (λ l. AreLogins l all.0) (take_all (length lines) lines (omega arith)) all.1 in
          inl (all.0, are, λ number. not_both lines all.0 number are)
      | inr broken ↦ inr (broken.0, broken.1, λ other again. one_broken lines broken.0 other broken.1 again, λ logins are. not_both lines logins broken.0 are broken.1)
    ]
