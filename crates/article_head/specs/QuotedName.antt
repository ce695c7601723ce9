-- The name of a file in the subject of one of its articles (yEnc draft 1.3, "Subject Line Conventions"): what stands between
-- the first and the last double quote. So a name may have double quotes of its own.
use Rattle.std.specs.Prelude.{◌≡◌, ℕ, Bool, true, false, ◌==◌, if◌then◌else◌, List, [], ◌∷◌, ◌++◌, codes, Option, Some, None, All}
use Rattle.std.specs.Option.{option_and_then}

-- a byte stands nowhere in a text
abbrev pub Lacks : ℕ → List ℕ → Type 0
Lacks byte text = All (λ x. (x == byte) ≡ false) text

-- no double quote stands before the first one, and none behind the last
pub record IsQuotedName (subject name : List ℕ) : Type 0 where
  pub before : List ℕ
  pub behind : List ℕ
  pub whole : subject ≡ before ++ codes "\"" ++ name ++ codes "\"" ++ behind
  pub first : Lacks 34 before
  pub last : Lacks 34 behind

-- the name in a subject; nothing where it has none, which is where it has less than two double quotes
abbrev pub FindsQuotedName : List ℕ → Option (List ℕ) → Type 0
FindsQuotedName subject (Some name) = IsQuotedName subject name
FindsQuotedName subject None = (name : List ℕ) → ¬ IsQuotedName subject name

-- ---- as it is found

-- what stands behind the first such byte, if there is one
abbrev pub behind_first : ℕ → List ℕ → Option (List ℕ)
behind_first byte [] = None
behind_first byte (x ∷ text) = if x == byte then Some text else behind_first byte text

-- a byte in front of what stands in front of the last such byte
abbrev pub in_front : ℕ → Bool → Option (List ℕ) → Option (List ℕ)
in_front x is (Some front) = Some (x ∷ front)
in_front x true None = Some []
in_front x false None = None

-- what stands in front of the last such byte, if there is one
abbrev pub before_last : ℕ → List ℕ → Option (List ℕ)
before_last byte [] = None
before_last byte (x ∷ text) = in_front x (x == byte) (before_last byte text)

abbrev pub quoted_name : List ℕ → Option (List ℕ)
quoted_name subject = option_and_then (before_last 34) (behind_first 34 subject)
