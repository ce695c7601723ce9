-- The refusal of an NZB text is the one that is known first: it stays the same whatever follows, and before the byte at
-- which it is known each front is cut short or a text by itself.
use Rattle.std.proofs.Common.{◌≡◌, ◌≢◌, ℕ, zero, suc, ◌+◌, ◌-◌, ◌≤◌, ◌<◌, Bool, true, false, eqb, ◌&&◌, List, [], ◌∷◌, ◌++◌, length, take, drop, Result, Ok, Err, refl, sym, ap, ◌∙◌, arith, inl, inr, ◌⊎◌}
use Rattle.std.specs.Prelude.{codes, nat_lt}
use Rattle.std.proofs.lemmas.Bool.{cases_order, eqb-true, cases_Bool, cases_eq, le-ltb}
use Rattle.std.proofs.lemmas.List.{length-append, append-nil, length-take, take-append-drop}
use Rattle.nzb_index.specs.declared.error.NzbReason.{NzbReason}
use Rattle.nzb_index.specs.declared.error.NzbReason.TheVariants.{Ended, Unexpected, BadReference, WrongTag, DoubleAttribute, NoNumber, BadNumber, BadId, Subset}
use Rattle.nzb_index.specs.declared.error.NzbLimit.TheVariants as limits
use Rattle.nzb_writer.specs.declared.index.Index.{Index}
use Rattle.nzb_writer.specs.Markup.{unchecked, is_control}
use Rattle.nzb_index.specs.MarkupReading.{Stop, word, unexpected, name_at, only, tag_at, parent, between, between_or, up_to, one_white, ◌>>=◌}
use Rattle.nzb_index.specs.NzbReading.{entry_item, type_end, behind_type, behind_mark, behind_declaration, nothing_behind, index_at, Refusal, refused_at, past, with_place, nzb_of}
use Rattle.nzb_index.proofs.Keeps.{Keeps, goes_on, ends, cut, stays, limited, Never, behind, same, keeps_bind, keeps_then, keeps_if, stop_keeps, unexpected_keeps, word_keeps, one_white_keeps, name_keeps, up_to_keeps, Edge, nothing, opening, between_keeps}
use Rattle.nzb_index.proofs.ElementsKept.{tag_keeps, only_keeps, parent_keeps, entry_keeps}
use Rattle.limits.specs.declared.TheConstants.{MOST_TEXT_BYTES}

-- ---- the whole text

as_edge : {more : List ℕ} (r r' : Result (List ℕ) Stop) → Keeps (behind more) Never more r r' → Keeps (behind more) Edge more r r'
as_edge r r' (goes_on x) = goes_on x
as_edge r r' (ends x after h) = absurd h
as_edge r r' (cut after) = cut after
as_edge r r' (stays left reason n) = stays left reason n
as_edge r r' (limited l) = limited l

mark_keeps : (text more : List ℕ) → Keeps (behind more) Edge more (behind_mark text) (behind_mark (text ++ more))
mark_keeps [] more = ends [] _ nothing
mark_keeps (x ∷ text) more = keeps_if (eqb 0xEF x && true) _ _ _ _ _ refl (λ e. as_edge (word (0xEF ∷ 0xBB ∷ 0xBF ∷ []) (x ∷ text)) _ (word_keeps (0xEF ∷ 0xBB ∷ 0xBF ∷ []) (x ∷ text) more)) (λ e. goes_on (x ∷ text))

declaration_keeps : (text more : List ℕ) → Keeps (behind more) Edge more (behind_declaration text) (behind_declaration (text ++ more))
declaration_keeps [] more = ends [] _ nothing
declaration_keeps (x ∷ []) more = elim (cases_Bool (eqb 60 x)) [
  | inl e ↦ rw (← (eqb-true 60 x e)) (ends (60 ∷ []) _ opening)
  | inr e ↦ rw e (goes_on (x ∷ []))
]
declaration_keeps (x ∷ y ∷ text) more = keeps_if (eqb 60 x && (eqb 63 y && true)) _ _ _ _ _ refl
    (λ e. keeps_then (word (codes "<?xml") (x ∷ y ∷ text)) _ _ _ (word_keeps (codes "<?xml") (x ∷ y ∷ text) more) (λ name.
    keeps_then (one_white name) _ _ _ (one_white_keeps name more) (λ inside. as_edge (up_to (codes "?>") inside) _ (up_to_keeps (codes "?>") inside more refl))))
    (λ e. goes_on (x ∷ y ∷ text))

type_end_keeps : (text more : List ℕ) → Keeps (behind more) Never more (type_end text) (type_end (text ++ more))
type_end_keeps [] more = cut _
type_end_keeps (x ∷ text) more = keeps_if (eqb x 62) _ _ _ _ _ refl (λ e. goes_on text) (λ e. keeps_if (eqb x 91) _ _ _ _ _ refl (λ f. stop_keeps (x ∷ text) Subset (λ g. cc)) (λ f. keeps_if (is_control x) _ _ _ _ _ refl (λ k. unexpected_keeps (x ∷ text)) (λ k. type_end_keeps text more)))

between_on : (text more : List ℕ) → Keeps (behind more) Edge more (between text) (between (text ++ more))
between_on text more = between_keeps unexpected more (λ t. unexpected_keeps t) refl (suc (length text)) (suc (length (text ++ more))) text (omega (arith, length-append text more))

type_keeps : (more text : List ℕ) → Keeps (behind more) Edge more (behind_type text) (behind_type (text ++ more))
type_keeps more text =
    keeps_then (word (codes "DOCTYPE") text) _ _ _ (word_keeps (codes "DOCTYPE") text more) (λ name. keeps_then (one_white name) _ _ _ (one_white_keeps name more) (λ inside.
    keeps_then (type_end inside) _ _ _ (type_end_keeps inside more) (λ left. between_on left more)))

-- a text by itself may be none with more behind it
abbrev Whole : Index → Type 0
Whole i = Unit {0}

abbrev behind_root : Index → List ℕ → Result Index Stop
behind_root i left = nothing_behind left >>= λ over. Ok i

behind_root_keeps : (i : Index) (left more : List ℕ) → Keeps same Whole more (behind_root i left) (behind_root i (left ++ more))
behind_root_keeps i [] more = ends i _ tt
behind_root_keeps i (x ∷ left) more = keeps_then {shift = behind more} (word (codes "<!--") (x ∷ left) >>= unexpected) _ _ _
    (keeps_then (word (codes "<!--") (x ∷ left)) _ _ _ (word_keeps (codes "<!--") (x ∷ left) more) (λ r. unexpected_keeps r)) (λ r. ends i _ tt)

abbrev root_at : List ℕ → Result Index Stop
root_at here = do
  inside ← word (codes "<") here
  name ← name_at inside
  ok ← only (codes "nzb") name.0 here
  tag ← tag_at unchecked name.1
  index ← parent entry_item (codes "nzb") tag.0 (record { metas = []; files = [] }) tag.1
  left ← between index.1
  behind_root index.0 left

root_keeps : (here more : List ℕ) → Keeps same Whole more (root_at here) (root_at (here ++ more))
root_keeps here more =
    keeps_then (word (codes "<") here) _ _ _ (word_keeps (codes "<") here more) (λ inside.
    keeps_then (name_at inside) _ _ _ (name_keeps inside more) (λ name.
    keeps_then (only (codes "nzb") name.0 here) _ _ _ (only_keeps (codes "nzb") name.0 here more) (λ ok.
    keeps_then (tag_at unchecked name.1) _ _ _ (tag_keeps unchecked name.1 more) (λ tag.
    keeps_then (parent entry_item (codes "nzb") tag.0 _ tag.1) _ _ _ (parent_keeps entry_item (codes "nzb") more (entry_keeps more) tag.0 _ tag.1) (λ index.
    keeps_bind (between index.1) _ _ _ (between_on index.1 more) (edge index.0) (λ left. behind_root_keeps index.0 left more))))))
  where
    edge : (i : Index) (left : List ℕ) → Edge left → (r : Result Index Stop) → Keeps same Whole more (behind_root i left) r
    edge i left nothing r = ends i r tt
    edge i left opening r = cut _

pub index_keeps : (text more : List ℕ) → Keeps same Whole more (index_at text) (index_at (text ++ more))
index_keeps text more =
    keeps_bind (behind_mark text) _ (λ marked. behind_declaration marked >>= typed (length text)) (λ marked. behind_declaration marked >>= typed (length (text ++ more))) (mark_keeps text more) edge_marked (λ marked.
    keeps_bind (behind_declaration marked) _ (typed (length text)) (typed (length (text ++ more))) (declaration_keeps marked more) edge_declared (λ declared.
    keeps_bind (between_or behind_type (suc (length text)) declared) _ root_at root_at
    (between_keeps behind_type more (type_keeps more) refl (suc (length text)) (suc (length (text ++ more))) declared (omega (arith, length-append text more))) edge_root (λ here. root_keeps here more)))
  where
    typed : ℕ → List ℕ → Result Index Stop
    typed n declared = between_or behind_type (suc n) declared >>= root_at

    edge_root : (here : List ℕ) → Edge here → (r : Result Index Stop) → Keeps same Whole more (root_at here) r
    edge_root here nothing r = cut _
    edge_root here opening r = cut _

    edge_declared : (declared : List ℕ) → Edge declared → (r : Result Index Stop) → Keeps same Whole more (typed (length text) declared) r
    edge_declared declared nothing r = cut _
    edge_declared declared opening r = cut _

    edge_marked : (marked : List ℕ) → Edge marked → (r : Result Index Stop) → Keeps same Whole more (behind_declaration marked >>= typed (length text)) r
    edge_marked marked nothing r = cut _
    edge_marked marked opening r = cut _

-- ---- refusals

-- a refusal other than by the text's end
abbrev pub is_early : Refusal → Bool
is_early (refused_at place Ended) = false
is_early (refused_at place other) = true
is_early (past l) = true

early : (place : ℕ) (reason : NzbReason) → reason ≢ Ended → is_early (refused_at place reason) ≡ true
early place Ended n = absurd (n refl)
early place Unexpected n = refl
early place BadReference n = refl
early place WrongTag n = refl
early place DoubleAttribute n = refl
early place NoNumber n = refl
early place BadNumber n = refl
early place BadId n = refl
early place Subset n = refl

abbrev refuses : Refusal → Result Index Refusal
refuses e = Err e

placed : (total : ℕ) (more : List ℕ) (e : Refusal) (r r' : Result Index Stop) → Keeps same Whole more r r' → with_place total r ≡ Err e → is_early e ≡ true → with_place (total + length more) r' ≡ Err e
placed total more e r r' (goes_on x) h k = absurd cc
placed total more e r r' (ends x after w) h k = absurd cc
placed total more e r r' (cut after) h k = let same_e : refused_at (total - 0) Ended ≡ e = cc in absurd (let f : false ≡ true = rw (← same_e) at k in cc)
placed total more e r r' (stays left reason n) h k =
    let place : (total + length more) - (left + length more) ≡ total - left = omega arith in
    ap (λ (p : ℕ). refuses (refused_at p reason)) place ∙ h
placed total more e r r' (limited l) h k = h

-- what is refused before the text's end stays refused, at the same place, whatever follows
pub nzb_stays : (text more : List ℕ) (e : Refusal) → nzb_of text ≡ Err e → is_early e ≡ true → length (text ++ more) ≤ MOST_TEXT_BYTES → nzb_of (text ++ more) ≡ Err e
unfolding nzb_of
nzb_stays text more e h k short =
    let fits : nat_lt MOST_TEXT_BYTES (length text) ≡ false = le-ltb MOST_TEXT_BYTES (length text) (omega (arith, length-append text more, short)) in
    let fits_both : nat_lt MOST_TEXT_BYTES (length (text ++ more)) ≡ false = le-ltb MOST_TEXT_BYTES (length (text ++ more)) short in
    let known : with_place (length text) (index_at text) ≡ Err e = rw fits at h in
    rw fits_both (ap (λ (n : ℕ). with_place n (index_at (text ++ more))) (length-append text more) ∙ placed (length text) more e (index_at text) (index_at (text ++ more)) (index_keeps text more) known k)

-- ---- the text's end

placed_end : (total place : ℕ) (more : List ℕ) (r r' : Result Index Stop) → Keeps same Whole more r r' → with_place total r ≡ Err (refused_at place Ended) → place ≡ total
placed_end total place more r r' (goes_on x) h = absurd cc
placed_end total place more r r' (ends x after w) h = absurd cc
placed_end total place more r r' (cut after) h = let e : total - 0 ≡ place = cc in omega (arith, e)
placed_end total place more r r' (stays left reason n) h = absurd (n (cc))
placed_end total place more r r' (limited l) h = absurd cc

-- a text that is cut short is refused at its end
pub nzb_ended : (text : List ℕ) (place : ℕ) → nzb_of text ≡ Err (refused_at place Ended) → place ≡ length text
unfolding nzb_of
nzb_ended text place h = elim (cases_Bool (nat_lt MOST_TEXT_BYTES (length text))) [
  | inl long ↦ absurd (let f : refuses (past limits.TextBytes) ≡ refuses (refused_at place Ended) = rw long at h in cc)
  | inr short ↦ placed_end (length text) place [] (index_at text) (index_at (text ++ [])) (index_keeps text []) (rw short at h)
]

-- ---- the first front that is refused

abbrev is_refused : Result Index Refusal → Bool
is_refused (Ok i) = false
is_refused (Err e) = is_early e

first_below : (p : ℕ → Bool) (n : ℕ) → ((k : ℕ) × (k < n) × (p k ≡ true) × ((j : ℕ) → j < k → p j ≡ false)) ⊎ ((j : ℕ) → j < n → p j ≡ false)
first_below p zero = inr (λ j h. absurd (omega arith))
first_below p (suc n) = elim (first_below p n) [
  | inl (k, l, h, none) ↦ inl (k, omega arith, h, none)
  | inr none ↦ elim (cases_Bool (p n)) [
    | inl h ↦ inl (n, omega arith, h, none)
    | inr h ↦ inr (λ j l. below j l h none)
  ]
]
  where
    below : (j : ℕ) → j < suc n → p n ≡ false → ((i : ℕ) → i < n → p i ≡ false) → p j ≡ false
    below j l h none = elim (cases_eq j n) [ inl e ↦ ap (λ (i : ℕ). p i) e ∙ h | inr e ↦ none j (omega arith) ]

abbrev refused_front : List ℕ → ℕ → Bool
refused_front text j = is_refused (nzb_of (take j text))

-- a refusal that stays whatever follows k bytes, and that no shorter front has
pub record IsFirstFront (text : List ℕ) (e : Refusal) (k : ℕ) : Type 0 where
  pub is_front : k ≤ length text
  pub known : (more : List ℕ) → length (take k text ++ more) ≤ MOST_TEXT_BYTES → nzb_of (take k text ++ more) ≡ Err e
  pub not_before : (j : ℕ) → j < k → (nzb_of (take j text) ≡ Err (refused_at j Ended)) ⊎ ((i : Index) × (nzb_of (take j text) ≡ Ok i))

-- each refusal before the text's end is known first at one of its fronts
pub nzb_first : (text : List ℕ) (e : Refusal) → length text ≤ MOST_TEXT_BYTES → nzb_of text ≡ Err e → is_early e ≡ true → (k : ℕ) × IsFirstFront text e k
nzb_first text e short h is_one = elim (first_below (refused_front text) (suc (length text))) [
  | inr none ↦ absurd (let f : is_refused (nzb_of text) ≡ false = rw whole at (none (length text) (omega arith)) in let g : is_refused (nzb_of text) ≡ true = rw h is_one in cc)
  | inl (k, l, refusal, none) ↦ (k, known_at k (omega arith) (nzb_of (take k text)) refl refusal none)
]
  where
    whole : take (length text) text ≡ text
    whole = go text
      where
        go : (t : List ℕ) → take (length t) t ≡ t
        go [] = refl
        go (x ∷ t) = ap (λ (u : List ℕ). x ∷ u) (go t)

    before : (j : ℕ) → j ≤ length text → (r : Result Index Refusal) → nzb_of (take j text) ≡ r → is_refused r ≡ false → (nzb_of (take j text) ≡ Err (refused_at j Ended)) ⊎ ((i : Index) × (nzb_of (take j text) ≡ Ok i))
    before j l (Ok i) f no_refusal = inr (i, f)
    before j l (Err (refused_at place Ended)) f no_refusal =
        let end : place ≡ j = let p = nzb_ended (take j text) place f in let t = length-take j text in omega (arith, p, t, l) in
        inl (f ∙ ap (λ (q : ℕ). refuses (refused_at q Ended)) end)
    before j l (Err (refused_at place Unexpected)) f no_refusal = absurd cc
    before j l (Err (refused_at place BadReference)) f no_refusal = absurd cc
    before j l (Err (refused_at place WrongTag)) f no_refusal = absurd cc
    before j l (Err (refused_at place DoubleAttribute)) f no_refusal = absurd cc
    before j l (Err (refused_at place NoNumber)) f no_refusal = absurd cc
    before j l (Err (refused_at place BadNumber)) f no_refusal = absurd cc
    before j l (Err (refused_at place BadId)) f no_refusal = absurd cc
    before j l (Err (refused_at place Subset)) f no_refusal = absurd cc
    before j l (Err (past p)) f no_refusal = absurd cc

    known_at : (k : ℕ) → k ≤ length text → (r : Result Index Refusal) → nzb_of (take k text) ≡ r → is_refused r ≡ true → ((j : ℕ) → j < k → refused_front text j ≡ false) → IsFirstFront text e k
    known_at k l (Ok i) f refusal none = absurd cc
    known_at k l (Err d) f refusal none =
        let rest : take k text ++ drop k text ≡ text = take-append-drop k text in
        let later : nzb_of text ≡ Err d = rw rest at (nzb_stays (take k text) (drop k text) d f refusal (rw rest short)) in
        let same_e : d ≡ e = let both : refuses d ≡ refuses e = sym later ∙ h in cc in
        record {
          is_front = l;
          known = λ more fits. nzb_stays (take k text) more d f refusal fits ∙ ap (λ (x : Refusal). refuses x) same_e;
          not_before = λ j less. before j (omega arith) (nzb_of (take j text)) refl (none j less);
        }

-- and at one alone
pub one_front : (text : List ℕ) (e : Refusal) (j k : ℕ) → length text ≤ MOST_TEXT_BYTES → is_early e ≡ true → IsFirstFront text e j → IsFirstFront text e k → j ≡ k
one_front text e j k short is_one a b = elim (cases_order j k) [
  | inl same_front ↦ same_front
  | inr (inl less) ↦ absurd (not_yet j a (b.not_before j less))
  | inr (inr less) ↦ absurd (not_yet k b (a.not_before k less))
]
  where
    not_yet : (i : ℕ) → IsFirstFront text e i → (nzb_of (take i text) ≡ Err (refused_at i Ended)) ⊎ ((index : Index) × (nzb_of (take i text) ≡ Ok index)) → ⊥
    not_yet i known before = go before
      where
        here : nzb_of (take i text) ≡ Err e
        here = let l = length-take i text in rw (append-nil (take i text)) at (known.known [] (omega (arith, l, length-append (take i text) [], short)))

        go : (nzb_of (take i text) ≡ Err (refused_at i Ended)) ⊎ ((index : Index) × (nzb_of (take i text) ≡ Ok index)) → ⊥
        go (inl f) = let both : refuses e ≡ refuses (refused_at i Ended) = sym here ∙ f in let same_e : e ≡ refused_at i Ended = cc in let g : false ≡ true = rw same_e at is_one in cc
        go (inr (index, f)) = let both : refuses e ≡ Ok index = sym here ∙ f in cc
