-- Bytes begin with a block, or they are heard of one that hasn't ended.
use Rattle.std.proofs.Common.{◌≡◌, ◌≢◌, ℕ, List, [], ◌∷◌, ◌++◌, sym, ap, subst, ◌∙◌, append_assoc, inl, inr, ◌⊎◌}
use Rattle.std.proofs.lemmas.Bool.{cases_eq}
use Rattle.std.proofs.lemmas.List.{append-nil}
use Rattle.dot_blocks.specs.Blocks.{HoldsNoLineEnd, IsBlock}
use Rattle.dot_blocks.specs.Heard.{IsHeard, EndsWithReturn}
use Rattle.dot_blocks.specs.Laws.{BeginsBlockAlone, AreHeardAlone}
use Rattle.dot_blocks.proofs.LineEnds.{no_end_in_one, no_end_in_front, joined, return_behind}
use Rattle.dot_blocks.proofs.BlockLaws.{heard_once, heard_begins_no_block}
use Rattle.dot_blocks.proofs.Framing.{heard_none, heard_more, heard_block, ended_line}

-- whether bytes end with CR
ends_or_not : (bytes : List ℕ) → EndsWithReturn bytes ⊎ (¬ (EndsWithReturn bytes))
ends_or_not [] = inr (λ r. none r.0 r.1)
  where
    none : (front : List ℕ) → [] ≢ front ++ 13 ∷ []
    none [] e = cc
    none (c ∷ front) e = cc
ends_or_not (x ∷ []) = elim (cases_eq x 13) [ inl is ↦ inl ([], ap (λ (y : ℕ). y ∷ []) is) | inr not ↦ inr (λ r. last r.0 r.1 not) ]
  where
    last : (front : List ℕ) → x ∷ [] ≡ front ++ 13 ∷ [] → x ≢ 13 → ⊥
    last [] e n = n (cc)
    last (c ∷ []) e n = cc
    last (c ∷ d ∷ front) e n = cc
ends_or_not (x ∷ y ∷ bytes) = elim (ends_or_not (y ∷ bytes)) [
  | inl is ↦ inl (return_behind x (y ∷ bytes) is)
  | inr not ↦ inr (λ r. further r.0 r.1 not)
]
  where
    further : (front : List ℕ) → x ∷ y ∷ bytes ≡ front ++ 13 ∷ [] → ¬ (EndsWithReturn (y ∷ bytes)) → ⊥
    further [] e n = cc
    further (c ∷ front) e n = n (front, cc)

-- whether a line on the wire is a dot alone
dot_or_not : (wire : List ℕ) → (wire ≡ 46 ∷ []) ⊎ (wire ≢ 46 ∷ [])
dot_or_not [] = inr (λ e. cc)
dot_or_not (x ∷ []) = elim (cases_eq x 46) [ inl is ↦ inl (ap (λ (y : ℕ). y ∷ []) is) | inr not ↦ inr (λ e. not (cc)) ]
dot_or_not (x ∷ y ∷ wire) = inr (λ e. cc)

-- a block at the front of the bytes, or what was heard of one
abbrev Read : List ℕ → Type 0
Read bytes =
    ((lines : List (List ℕ)) × (block : List ℕ) × (rest : List ℕ) × IsBlock lines block × (bytes ≡ block ++ rest))
    ⊎ ((lines : List (List ℕ)) × (begun : List ℕ) × IsHeard bytes lines begun)

-- one more byte
read_fed : (heard : List ℕ) (lines : List (List ℕ)) (begun front : List ℕ) → IsHeard heard lines begun → begun ≡ front ++ 13 ∷ [] → Read (heard ++ 10 ∷ [])
read_fed heard lines begun front h e =
    let none : HoldsNoLineEnd front = no_end_in_front front (13 ∷ []) (subst HoldsNoLineEnd e h.goes_on) in
    let is : begun ++ 10 ∷ [] ≡ front ++ 13 ∷ 10 ∷ [] = ap (λ (t : List ℕ). t ++ 10 ∷ []) e ∙ append_assoc front (13 ∷ []) (10 ∷ []) in
    elim (dot_or_not front) [
      | inl dot ↦ inl (lines, heard ++ 10 ∷ [], [], heard_block heard lines begun (10 ∷ []) h (is ∙ ap (λ (t : List ℕ). t ++ 13 ∷ 10 ∷ []) dot), sym (append-nil (heard ++ 10 ∷ [])))
      | inr other ↦
          let l = ended_line heard lines begun (10 ∷ []) h (front, none, is) (λ f. other (front_dot front (sym is ∙ f))) in
          inr (lines ++ l.0 ∷ [], [], l.4.is_heard)
    ]
  where
    front_dot : (t : List ℕ) → t ++ 13 ∷ 10 ∷ [] ≡ 46 ∷ 13 ∷ 10 ∷ [] → t ≡ 46 ∷ []
    front_dot [] f = cc
    front_dot (a ∷ []) f = cc
    front_dot (a ∷ b ∷ []) f = absurd cc
    front_dot (a ∷ b ∷ c ∷ []) f = absurd cc
    front_dot (a ∷ b ∷ c ∷ d ∷ t) f = absurd cc

read_one : (heard : List ℕ) (lines : List (List ℕ)) (begun : List ℕ) (x : ℕ) → IsHeard heard lines begun → Read (heard ++ x ∷ [])
read_one heard lines begun x h = elim (cases_eq x 10) [
  | inl feed ↦ elim (ends_or_not begun) [
    | inl r ↦ subst (λ (y : ℕ). Read (heard ++ y ∷ [])) (sym feed) (read_fed heard lines begun r.0 h r.1)
    | inr not ↦ inr (lines, begun ++ x ∷ [], heard_more heard lines begun (x ∷ []) h (joined begun (x ∷ []) h.goes_on (no_end_in_one x) (λ r. absurd (not r))))
  ]
  | inr other ↦ inr (lines, begun ++ x ∷ [], heard_more heard lines begun (x ∷ []) h (joined begun (x ∷ []) h.goes_on (no_end_in_one x) (λ r w e. other (cc))))
]

read_on : (rest heard : List ℕ) → Read heard → Read (heard ++ rest)
read_on rest heard (inl (lines, block, more, is, e)) = inl (lines, block, more ++ rest, is, ap (λ (t : List ℕ). t ++ rest) e ∙ append_assoc block more rest)
read_on [] heard (inr read) = subst Read (sym (append-nil heard)) (inr read)
read_on (x ∷ rest) heard (inr (lines, begun, h)) =
    subst Read (append_assoc heard (x ∷ []) rest) (read_on rest (heard ++ x ∷ []) (read_one heard lines begun x h))

alone : (bytes : List ℕ) → Read bytes → BeginsBlockAlone bytes ⊎ AreHeardAlone bytes
alone bytes (inl found) =
    inl (found, λ lines begun h. heard_begins_no_block bytes lines begun h found.0 found.1 found.2 found.3 found.4)
alone bytes (inr (lines, begun, h)) =
    inr (heard_begins_no_block bytes lines begun h, (lines, begun, (h, λ others other k. heard_once bytes others lines other begun k h)))

pub block_or_heard : (bytes : List ℕ) → BeginsBlockAlone bytes ⊎ AreHeardAlone bytes
block_or_heard bytes = alone bytes (read_on bytes [] (inr ([], [], heard_none)))
