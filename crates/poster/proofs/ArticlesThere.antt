-- Each list of bytes has data lines, and so each part a body and each file its articles.
use Rattle.std.proofs.Common.{◌≡◌, ℕ, zero, suc, ◌+◌, ◌≤◌, ◌<◌, ◌==◌, ◌||◌, List, [], ◌∷◌, ◌++◌, length, get_or, take, drop, refl, sym, inl, inr, arith, length-drop}
use Rattle.std.proofs.lemmas.Bool.{cases_lt}
use Rattle.std.proofs.lemmas.List.{take-append-drop}
use Rattle.yenc_bytes.specs.WriterLines.{IsCanonicalData, IsWriterLine, is_empty, writer_spelling}
use Rattle.yenc_bytes.proofs.DataLines.{Filled, Filled-end, Filled-more, Filled-none}
use Rattle.yenc_body.specs.Canonical.{IsCanonicalBody, body_around}
use Rattle.yenc_body.specs.Parts.{part_bytes, parts_of}
use Rattle.yenc_body.specs.declared.spec.BodySpec.{BodySpec}
use Rattle.poster.specs.Article.{AreArticles, AreArticlesFrom, Article, IsArticle, head_of, spec_for}
use Rattle.poster.specs.Plan.{id_of}
use Rattle.poster.specs.declared.settings.Settings.{Settings}

-- a line of the writer's at the front of some bytes
record FrontLine (line_length : ℕ) (bytes : List ℕ) : Type 0 where
  used : ℕ
  line : List ℕ
  some : 1 ≤ used
  inside : used ≤ length bytes
  written : IsWriterLine line_length (is_empty (drop used bytes)) (take used bytes) line

ended : (line_length : ℕ) (bytes : List ℕ) (used : ℕ) (text : List ℕ) → Filled line_length bytes used text → 1 ≤ used → (used < length bytes → line_length ≤ length text) → FrontLine line_length bytes
ended line_length bytes used text filled some full =
    record { used = used; line = text; some = some; inside = filled.inside; written = Filled-end line_length bytes used text filled some full }

filled_on : (fuel line_length : ℕ) (bytes : List ℕ) (used : ℕ) (text : List ℕ) → Filled line_length bytes used text → 1 ≤ used → length bytes ≤ used + fuel → FrontLine line_length bytes
filled_on zero line_length bytes used text filled some enough = ended line_length bytes used text filled some (λ more. absurd (omega arith))
filled_on (suc fuel) line_length bytes used text filled some enough = elim (cases_lt used (length bytes)) [
  | inr none ↦ ended line_length bytes used text filled some (λ more. absurd (omega arith))
  | inl left ↦ elim (cases_lt (length text) line_length) [
    | inr full ↦ ended line_length bytes used text filled some (λ more. full)
    | inl room ↦
        let spelling : List ℕ = writer_spelling (length text == 0 || length text + 1 == line_length || used + 1 == length bytes) (get_or bytes used 0) in
        filled_on fuel line_length bytes (used + 1) (text ++ spelling) (Filled-more line_length bytes used (length text) text spelling filled refl left room refl) (omega arith) (omega arith)
  ]
]

front_line : (line_length : ℕ) (bytes : List ℕ) → 1 ≤ line_length → 1 ≤ length bytes → FrontLine line_length bytes
front_line line_length bytes width some =
    let spelling : List ℕ = writer_spelling (0 == 0 || 0 + 1 == line_length || 0 + 1 == length bytes) (get_or bytes 0 0) in
    filled_on (length bytes) line_length bytes (0 + 1) ([] ++ spelling) (Filled-more line_length bytes 0 0 [] spelling (Filled-none line_length bytes width) refl (omega arith) (omega arith) refl) (omega arith) (omega arith)

data_there : (fuel line_length : ℕ) (bytes : List ℕ) → 1 ≤ line_length → length bytes ≤ fuel → (lines : List (List ℕ)) × IsCanonicalData line_length bytes lines
data_there fuel line_length [] width enough = ([], refl)
data_there zero line_length (b ∷ bytes) width enough = absurd (omega arith)
data_there (suc fuel) line_length (b ∷ bytes) width enough =
    let whole : List ℕ = b ∷ bytes in
    let first = front_line line_length whole width (omega arith) in
    let behind = data_there fuel line_length (drop first.used whole) width (omega (arith, length-drop first.used whole, first.some, first.inside)) in
    (first.line ∷ behind.0, (take first.used whole, drop first.used whole, sym (take-append-drop first.used whole), first.written, behind.1))

body_there : (spec : BodySpec) (content : List ℕ) → 1 ≤ spec.line → (lines : List (List ℕ)) × IsCanonicalBody spec content lines
body_there spec content width =
    let held = data_there (length content) spec.line content width (omega arith) in
    (body_around spec content held.0, (held.0, held.1, refl))

article_there : (s : Settings) (size part : ℕ) (bytes : List ℕ) → 1 ≤ s.line → (a : Article) × IsArticle s size part bytes a
article_there s size part bytes width =
    let body = body_there (spec_for s size part) bytes width in
    let id = id_of s size part in
    (record { id = id; head = head_of s part (parts_of size s.part_size) id; body = body.0 }, record { id_is = refl; head_is = refl; body_is = body.1 })

articles_from_there : (part count : ℕ) (s : Settings) (file : List ℕ) → 1 ≤ s.line → (articles : List Article) × (length articles ≡ count) × AreArticlesFrom part s file articles
articles_from_there part zero s file width = ([], refl, tt)
articles_from_there part (suc count) s file width =
    let first = article_there s (length file) part (part_bytes file s.part_size part) width in
    let rest = articles_from_there (part + 1) count s file width in
    (first.0 ∷ rest.0, omega (arith, rest.1), (first.1, rest.2))

pub articles_there : (s : Settings) (file : List ℕ) → 1 ≤ s.line → (articles : List Article) × AreArticles s file articles
articles_there s file width =
    let found = articles_from_there 1 (parts_of (length file) s.part_size) s file width in
    (found.0, record { count = found.1; each = found.2 })
