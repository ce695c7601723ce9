-- A whole text over a slice.
use Rattle.std.proofs.Common.{◌≡◌, ℕ, suc, ◌-◌, ◌<◌, ◌≤◌, true, false, not, List, [], length, take, drop, Result, Ok, Err, refl, sym, subst, ◌∙◌, arith, inl, inr, ◌⊎◌}
use Rattle.std.specs.Prelude.{codes, bytes_eq, IfOk}
use Rattle.std.proofs.lemmas.Bool.{lt-ltb, le-ltb, not-false}
use Rattle.std.proofs.lemmas.List.{length-drop}
use Rattle.nzb_index.specs.declared.error.NzbError.{NzbError}
use Rattle.nzb_index.specs.declared.error.NzbError.TheVariants.{Memory, Refused, Limit}
use Rattle.nzb_index.specs.declared.error.NzbLimit.TheVariants as limits
use Rattle.nzb_writer.specs.declared.index.Index.{Index}
use Rattle.nzb_index.specs.declared.scan.Between.{Between}
use Rattle.nzb_index.specs.declared.scan.Between.TheVariants.{Other, Declaration}
use Rattle.nzb_writer.specs.Markup.{unchecked}
use Rattle.nzb_writer.specs.Canonical.{IsValidIndex}
use Rattle.nzb_index.specs.MarkupReading.{Stop, Tag, unexpected, word, name_at, between, between_or, tag_at, parent, ◌>>=◌}
use Rattle.nzb_writer.specs.Nzb.{IsNzb}
use Rattle.nzb_index.specs.NzbReading.{Refusal, refused_at, past, entry_item, nothing_behind, behind_mark, behind_declaration, behind_type, index_at, with_place, nzb_of}
use Rattle.nzb_index.specs.Readers.{Fails, ReadsName, ReadsTo, EndsBetween, unexpected_at}
use Rattle.nzb_index.specs.ReadNzb.{NzbAnswers, IsError, FindsIndex, ReadsRoot, behind_root, tail_at}
use Rattle.nzb_index.specs.Refusal.{IsTextRefused}
use Rattle.nzb_index.proofs.IndexFound.{nzb_found}
use Rattle.nzb_index.proofs.IndexRead.{nzb_back}
use Rattle.nzb_index.proofs.Places.{here, over, unexpected_fails}
use Rattle.nzb_index.proofs.Betweens.{fails_as, fails_then}
use Rattle.nzb_index.proofs.ValidIndex.{nzb_valid}
use Rattle.limits.specs.declared.TheConstants.{MOST_TEXT_BYTES}

-- ---- where the root begins

pub root_here : (text : List ℕ) (at end : ℕ) (b : Between) → b ≡ Other end → EndsBetween text at (Ok b) → ReadsRoot text at (Ok end)
root_here text at end b e h = let f : EndsBetween text at (Ok (Other end)) = subst (λ (x : Between). EndsBetween text at (Ok x)) e h in λ fuel fits. f behind_type fuel fits

pub type_within : (text : List ℕ) (at end : ℕ) (b : Between) → b ≡ Declaration end → EndsBetween text at (Ok b) → end ≤ length text
type_within text at end b e h = let f : EndsBetween text at (Ok (Declaration end)) = subst (λ (x : Between). EndsBetween text at (Ok x)) e h in (f behind_type (length (drop at text)) (omega arith)).1

pub root_behind : (text : List ℕ) (at end : ℕ) (b : Between) (r : Result ℕ NzbError) → b ≡ Declaration end → EndsBetween text at (Ok b) → ReadsTo text end r (behind_type (drop end text)) → ReadsRoot text at r
root_behind text at end b r e h read = let f : EndsBetween text at (Ok (Declaration end)) = subst (λ (x : Between). EndsBetween text at (Ok x)) e h in λ fuel fits. go fuel r read (f behind_type fuel fits)
  where
    go : (fuel : ℕ) (s : Result ℕ NzbError) → ReadsTo text end s (behind_type (drop end text)) → (at ≤ end) × (end ≤ length text) × (between_or behind_type (suc fuel) (drop at text) ≡ behind_type (drop end text)) → ReadsTo text at s (between_or behind_type (suc fuel) (drop at text))
    go fuel (Ok last) (a, b, c) (l, w, g) = (omega (arith, a, l), b, g ∙ c)
    go fuel (Err d) k (l, w, g) = fails_as text d _ _ g k

-- ---- the root and what is behind it

abbrev pub no_index : Index
no_index = record { metas = []; files = [] }

to_tail : (text name : List ℕ) (marked declared mid inside behind : ℕ) → behind_mark text ≡ Ok (drop marked text) → behind_declaration (drop marked text) ≡ Ok (drop declared text) → ReadsRoot text declared (Ok mid) → word (codes "<") (drop mid text) ≡ Ok (drop inside text) →
    name_at (drop inside text) ≡ Ok (name, drop behind text) → bytes_eq name (codes "nzb") ≡ true → index_at text ≡ tail_at (drop behind text)
to_tail text name marked declared mid inside behind m d r w n s =
    let root = (r (length text) (omega (arith, length-drop declared text))).2 in
    rw m (rw d (rw root (rw w (rw n (rw s refl)))))

-- the same by what is answered on the way
pub at_tail : (text found : List ℕ) (marked declared mid inside behind : ℕ) → ReadsTo text 0 (Ok marked) (behind_mark text) → ReadsTo text marked (Ok declared) (behind_declaration (drop marked text)) → ReadsRoot text declared (Ok mid) →
    ReadsTo text mid (Ok inside) (word (codes "<") (drop mid text)) → ReadsName text inside (Ok behind) (name_at (drop inside text)) → found ≡ codes "nzb" → not (bytes_eq (take (behind - inside) (drop inside text)) found) ≡ false → index_at text ≡ tail_at (drop behind text)
at_tail text found marked declared mid inside behind m d r w n f same = to_tail text (take (behind - inside) (drop inside text)) marked declared mid inside behind m.2 d.2 r w.2 n.2 (not-false _ (rw f at same))

pub tail_tag_fails : (text rest : List ℕ) (e : NzbError) → Fails text e (tag_at unchecked rest) → Fails text e (tail_at rest)
tail_tag_fails text rest e h = fails_then text e (tag_at unchecked rest) (λ tag. parent entry_item (codes "nzb") tag.0 no_index tag.1 >>= λ index. between index.1 >>= λ behind. nothing_behind behind >>= λ nothing. Ok index.0) h

pub tail_entries_fail : (text rest : List ℕ) (tag : Tag) (mid : List ℕ) (e : NzbError) → tag_at unchecked rest ≡ Ok (tag, mid) → Fails text e (parent entry_item (codes "nzb") tag no_index mid) → Fails text e (tail_at rest)
tail_entries_fail text rest tag mid e t h = fails_as text e _ _ (rw t refl) (fails_then text e (parent entry_item (codes "nzb") tag no_index mid) (λ index. between index.1 >>= λ behind. nothing_behind behind >>= λ nothing. Ok index.0) h)

tail_behind : (rest : List ℕ) (tag : Tag) (mid : List ℕ) (index : Index) (left : List ℕ) → tag_at unchecked rest ≡ Ok (tag, mid) → parent entry_item (codes "nzb") tag no_index mid ≡ Ok (index, left) → tail_at rest ≡ (behind_root left >>= λ nothing. Ok index)
tail_behind rest tag mid index left t p = rw t (rw p (twice (between left)))
  where
    given : Index → Result Index Stop
    given i = Ok i

    twice : (r : Result (List ℕ) Stop) → (r >>= λ behind. nothing_behind behind >>= λ nothing. given index) ≡ ((r >>= nothing_behind) >>= λ nothing. given index)
    twice (Ok behind) = refl
    twice (Err s) = refl

pub tail_end_fails : (text rest : List ℕ) (tag : Tag) (mid : List ℕ) (index : Index) (left : List ℕ) (e : NzbError) → tag_at unchecked rest ≡ Ok (tag, mid) → parent entry_item (codes "nzb") tag no_index mid ≡ Ok (index, left) → Fails text e (behind_root left) → Fails text e (tail_at rest)
tail_end_fails text rest tag mid index left e t p h = fails_as text e _ _ (tail_behind rest tag mid index left t p) (fails_then text e (behind_root left) (λ nothing. Ok index) h)

pub tail_read : (rest : List ℕ) (tag : Tag) (mid : List ℕ) (index : Index) (left : List ℕ) → tag_at unchecked rest ≡ Ok (tag, mid) → parent entry_item (codes "nzb") tag no_index mid ≡ Ok (index, left) → behind_root left ≡ Ok [] → tail_at rest ≡ Ok index
tail_read rest tag mid index left t p b = tail_behind rest tag mid index left t p ∙ rw b refl

-- ---- behind the root

pub end_read : (text left : List ℕ) (at : ℕ) → between left ≡ Ok (drop at text) → at ≡ length text → behind_root left ≡ Ok []
end_read text left at b e = rw b (rw (over text at (omega (arith, e))) refl)

more_behind : (text : List ℕ) (at : ℕ) → at < length text → nothing_behind (drop at text) ≡ (word (codes "<!--") (drop at text) >>= unexpected)
more_behind text at l = rw (here text at l) refl

pub end_word_fails : (text left : List ℕ) (at : ℕ) (e : NzbError) → between left ≡ Ok (drop at text) → at < length text → Fails text e (word (codes "<!--") (drop at text)) → Fails text e (behind_root left)
end_word_fails text left at e b l h = fails_as text e _ _ (rw b (more_behind text at l)) (fails_then text e (word (codes "<!--") (drop at text)) unexpected h)

pub end_more_fails : (text left : List ℕ) (at after : ℕ) → between left ≡ Ok (drop at text) → at < length text → word (codes "<!--") (drop at text) ≡ Ok (drop after text) → after ≤ length text → Fails text (unexpected_at text after) (behind_root left)
end_more_fails text left at after b l w a = unexpected_fails text after (behind_root left) a (rw b (more_behind text at l ∙ rw w refl))

-- ---- the answer

pub too_long : (text : List ℕ) → MOST_TEXT_BYTES < length text → IsTextRefused text (past limits.TextBytes)
unfolding nzb_of
too_long text l = rw (lt-ltb MOST_TEXT_BYTES (length text) l) refl

short : (text : List ℕ) → length text ≤ MOST_TEXT_BYTES → nzb_of text ≡ with_place (length text) (index_at text)
unfolding nzb_of
short text l = rw (le-ltb MOST_TEXT_BYTES (length text) l) refl

not_both : (text : List ℕ) (index : Index) (refusal : Refusal) → IsNzb text index → IsTextRefused text refusal → ⊥
not_both text index refusal n r = let e : given index ≡ Err refusal = sym (nzb_back text index n) ∙ r in cc
  where
    given : Index → Result Index Refusal
    given j = Ok j

one : (text : List ℕ) (d e : Refusal) → IsTextRefused text d → IsTextRefused text e → d ≡ e
one text d e a b = let f : refuses d ≡ refuses e = sym a ∙ b in cc
  where
    refuses : Refusal → Result Index Refusal
    refuses x = Err x

pub answers : (text : List ℕ) (r : Result Index NzbError) → length text ≤ MOST_TEXT_BYTES → FindsIndex text r (index_at text) → NzbAnswers text r
answers text r l h = go r h
  where
    read : nzb_of text ≡ with_place (length text) (index_at text)
    read = short text l

    go : (s : Result Index NzbError) → FindsIndex text s (index_at text) → NzbAnswers text s
    go (Ok index) e = nzb_found text index (read ∙ rw e refl)
    go (Err Memory) e = tt
    go (Err (Refused place reason)) (w, e) = let same : length text - (length text - place) ≡ place = omega (arith, w) in read ∙ rw e (rw same refl)
    go (Err (Limit k)) e = read ∙ rw e refl

pub each_index : (text : List ℕ) (r : Result Index NzbError) (index : Index) → NzbAnswers text r → IsNzb text index → (r ≡ Ok index) ⊎ (r ≡ Err Memory)
each_index text (Ok i) index a n = let e : given i ≡ given index = sym (nzb_back text i a) ∙ nzb_back text index n in let same : i ≡ index = cc in inl (rw same refl)
  where
    given : Index → Result Index Refusal
    given j = Ok j
each_index text (Err Memory) index a n = inr refl
each_index text (Err (Refused place reason)) index a n = absurd (not_both text index (refused_at place reason) n a)
each_index text (Err (Limit k)) index a n = absurd (not_both text index (past k) n a)

pub each_refusal : (text : List ℕ) (r : Result Index NzbError) (refusal : Refusal) → NzbAnswers text r → IsTextRefused text refusal → IsError refusal r ⊎ (r ≡ Err Memory)
each_refusal text (Ok i) refusal a n = absurd (not_both text i refusal a n)
each_refusal text (Err Memory) refusal a n = inr refl
each_refusal text (Err (Refused place reason)) refusal a n = inl (same refusal (one text refusal (refused_at place reason) n a))
  where
    same : (d : Refusal) → d ≡ refused_at place reason → IsError d (Err (Refused place reason))
    same d e = rw e refl
each_refusal text (Err (Limit k)) refusal a n = inl (same refusal (one text refusal (past k) n a))
  where
    same : (d : Refusal) → d ≡ past k → IsError d (Err (Limit k))
    same d e = rw e refl

pub valid_if_read : (text : List ℕ) (r : Result Index NzbError) → NzbAnswers text r → IfOk r IsValidIndex
valid_if_read text (Ok i) a = nzb_valid text i a
valid_if_read text (Err e) a = tt
