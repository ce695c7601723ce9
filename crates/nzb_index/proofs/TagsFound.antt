-- Attributes and tags that are read are those of the grammar.
use Rattle.std.proofs.Common.{◌≡◌, ◌≢◌, ℕ, suc, zero, Bool, true, false, eqb, ◌||◌, List, [], ◌∷◌, ◌++◌, length, drop, refl, sym, ap, ◌∙◌, append_assoc, inl, inr, ◌⊎◌}
use Rattle.std.specs.Prelude.{codes, nat_eq}
use Rattle.std.specs.List.{starts_with}
use Rattle.std.proofs.lemmas.Bool.{eqb-true, eq-eqb, or_cases, both_ways}
use Rattle.std.proofs.lemmas.List.{append-nil}
use Rattle.nzb_writer.specs.Markup.{Attribute, IsAttribute, AreAttributes, AttributeChecks, has_attribute, IsWhite}
use Rattle.nzb_index.specs.MarkupReading.{Tag, quoted_at, attribute_at, tag_rest, tag_at, name_at, word, behind_white}
use Rattle.nzb_index.proofs.Words.{starts_front}
use Rattle.nzb_index.proofs.TextsFound.{Value, value_found}
use Rattle.nzb_index.proofs.Gives.{Named, Gives, gives_ok, gives_err, gives_bind, gives_if, gives_unexpected, gives_as, gives_test, gives_not, word_gives, white_taken, name_gives}

pub record Quoted (text bytes rest : List ℕ) : Type 0 where
  pub quote : ℕ
  pub is_quote : (quote ≡ 34) ⊎ (quote ≡ 39)
  pub value : Value quote (drop 1 text) bytes rest
  pub text_is : text ≡ quote ∷ drop 1 text

pub quote_cases : (q : ℕ) → (eqb q 34 || eqb q 39) ≡ true → (q ≡ 34) ⊎ (q ≡ 39)
quote_cases q e = elim (or_cases (eqb q 34) (eqb q 39) e) [ inl a ↦ inl (eqb-true q 34 a) | inr a ↦ inr (eqb-true q 39 a) ]

pub quoted_gives : (text : List ℕ) → Gives (quoted_at text) (λ v. Quoted text v.0 v.1)
quoted_gives [] = gives_err _
quoted_gives (q ∷ rest) = gives_if (eqb q 34 || eqb q 39) _ _
    (λ e. record { given = λ v f. record { quote = q; is_quote = quote_cases q e; value = value_found q (quote_cases q e) (length rest) rest v.0 v.1 f; text_is = refl } })
    (λ e. gives_unexpected (q ∷ rest))

-- an attribute from its name on, whatever its value may be
pub record Formed (here : List ℕ) (a : Attribute) (rest : List ℕ) : Type 0 where
  pub text : List ℕ
  pub tail : List ℕ
  pub text_is : text ≡ a.name ++ tail
  pub here_is : here ≡ text ++ rest
  pub is_attribute : (before : List ℕ) → IsWhite before → before ≢ [] → IsAttribute (before ++ text) a

pub formed : (here : List ℕ) (n : List ℕ × List ℕ) (b : List ℕ) (v : List ℕ × List ℕ) → Named here n.0 n.1 → behind_white n.1 ≡ codes "=" ++ b → Quoted (behind_white b) v.0 v.1 → Formed here (record { name = n.0; value = v.0 }) v.1
formed here n b v named equals q =
    let w = white_taken n.1 in
    let u = white_taken b in
    record {
      text = n.0 ++ w.front ++ codes "=" ++ u.front ++ q.quote ∷ q.value.raw ++ q.quote ∷ [];
      tail = w.front ++ codes "=" ++ u.front ++ q.quote ∷ q.value.raw ++ q.quote ∷ [];
      text_is = simp append_assoc;
      here_is = joined here n.0 n.1 w.front (behind_white n.1) b u.front (behind_white b) q.quote (drop 1 (behind_white b)) q.value.raw v.1 named.text_is w.text_is equals u.text_is q.text_is q.value.rest_is;
      is_attribute = λ before white some. record {
        before = before;
        behind_name = w.front;
        behind_equals = u.front;
        quote = q.quote;
        value = q.value.raw;
        text_is = simp append_assoc;
        apart = some;
        white = (white, w.is_white, u.is_white);
        is_name = named.is_name;
        is_quote = q.is_quote;
        within_quotes = q.value.inside;
        is_value = q.value.is_value;
      };
    }
  where
    joined : (h n r w bw b u bu : List ℕ) (q : ℕ) (d raw v : List ℕ) → h ≡ n ++ r → r ≡ w ++ bw → bw ≡ codes "=" ++ b → b ≡ u ++ bu → bu ≡ q ∷ d → d ≡ raw ++ q ∷ v →
        h ≡ (n ++ w ++ codes "=" ++ u ++ q ∷ raw ++ q ∷ []) ++ v
    joined h n r w bw b u bu q d raw v e1 e2 e3 e4 e5 e6 = rw (e1, e2, e3, e4, e5, e6) (simp append_assoc)

pub record Attributed (checks : AttributeChecks) (earlier : List Attribute) (here : List ℕ) (a : Attribute) (rest : List ℕ) : Type 0 where
  pub is_formed : Formed here a rest
  pub new : has_attribute a.name earlier ≡ false
  pub fits : checks a.name a.value ≡ true

pub attribute_gives : (checks : AttributeChecks) (earlier : List Attribute) (here : List ℕ) → Gives (attribute_at checks earlier here) (λ a. Attributed checks earlier here a.0 a.1)
attribute_gives checks earlier here =
    gives_bind (name_at here) _ (name_gives here) (λ n named.
    gives_not (has_attribute n.0 earlier) _ _ (λ new.
    gives_bind (word (codes "=") (behind_white n.1)) _ (word_gives (codes "=") (behind_white n.1)) (λ b equals.
    gives_bind (quoted_at (behind_white b)) _ (quoted_gives (behind_white b)) (λ v q.
    gives_test (checks n.0 v.0) _ _ (λ fits. gives_ok _ (record { is_formed = formed here n b v named equals q; new = new; fits = fits }))))))

-- how a start tag ends
abbrev pub tag_end : Bool → List ℕ
tag_end true = codes "/>"
tag_end false = codes ">"

-- a tag behind its name and these attributes
pub record Tagged (checks : AttributeChecks) (earlier : List Attribute) (rest : List ℕ) (tag : Tag) (behind : List ℕ) : Type 0 where
  pub text : List ℕ
  pub white : List ℕ
  pub attributes : List Attribute
  pub rest_is : rest ≡ text ++ white ++ tag_end tag.closed ++ behind
  pub all_are : tag.attributes ≡ earlier ++ attributes
  pub are_attributes : AreAttributes checks earlier text attributes
  pub is_white : IsWhite white

-- white is there where the text behind it is shorter
pub white_some : (rest front : List ℕ) → eqb (length (behind_white rest)) (length rest) ≡ false → rest ≡ front ++ behind_white rest → front ≢ []
white_some rest front h e empty = both_ways (eqb (length (behind_white rest)) (length rest)) h (eq-eqb (length (behind_white rest)) (length rest) (ap length (sym (e ∙ ap (λ (t : List ℕ). t ++ behind_white rest) empty))))

one_more : (checks : AttributeChecks) (earlier : List Attribute) (rest : List ℕ) (a : Attribute) (more : List ℕ) (tag : Tag) (behind : List ℕ) → eqb (length (behind_white rest)) (length rest) ≡ false →
    Attributed checks earlier (behind_white rest) a more → Tagged checks (earlier ++ a ∷ []) more tag behind → Tagged checks earlier rest tag behind
one_more checks earlier rest a more tag behind h one t =
    let w = white_taken rest in
    record {
      text = (w.front ++ one.is_formed.text) ++ t.text;
      white = t.white;
      attributes = a ∷ t.attributes;
      rest_is = joined rest w.front (behind_white rest) one.is_formed.text more t.text t.white (tag_end tag.closed) behind w.text_is one.is_formed.here_is t.rest_is;
      all_are = t.all_are ∙ append_assoc earlier (a ∷ []) t.attributes;
      are_attributes = (w.front ++ one.is_formed.text, t.text, refl, one.is_formed.is_attribute w.front w.is_white (white_some rest w.front h w.text_is), one.new, one.fits, t.are_attributes);
      is_white = t.is_white;
    }
  where
    joined : (r f b o m t w c l : List ℕ) → r ≡ f ++ b → b ≡ o ++ m → m ≡ t ++ w ++ c ++ l → r ≡ ((f ++ o) ++ t) ++ w ++ c ++ l
    joined r f b o m t w c l e1 e2 e3 = rw (e1, e2, e3) (simp append_assoc)

pub tag_rest_gives : (checks : AttributeChecks) (fuel : ℕ) (earlier : List Attribute) (rest : List ℕ) → Gives (tag_rest checks fuel earlier rest) (λ t. Tagged checks earlier rest t.0 t.1)
tag_rest_gives checks zero earlier rest = gives_err _
tag_rest_gives checks (suc fuel) earlier rest =
    let w = white_taken rest in
    let here = behind_white rest in
    gives_if (starts_with nat_eq here (codes ">")) _ _
    (λ e. gives_ok _ (record { text = []; white = w.front; attributes = []; rest_is = ended rest w.front here (codes ">") (drop 1 here) w.text_is (starts_front here (codes ">") e); all_are = sym (append-nil earlier); are_attributes = refl; is_white = w.is_white }))
    (λ e. gives_if (starts_with nat_eq here (codes "/")) _ _
    (λ f. gives_bind (word (codes "/>") here) _ (word_gives (codes "/>") here) (λ b is. gives_ok _
    (record { text = []; white = w.front; attributes = []; rest_is = ended rest w.front here (codes "/>") b w.text_is is; all_are = sym (append-nil earlier); are_attributes = refl; is_white = w.is_white })))
    (λ f. gives_if (eqb (length here) (length rest)) _ _ (λ g. gives_unexpected here)
    (λ g. gives_bind (attribute_at checks earlier here) _ (attribute_gives checks earlier here)
    (λ a one. gives_as _ (tag_rest_gives checks fuel (earlier ++ a.0 ∷ []) a.1) (λ t more. one_more checks earlier rest a.0 a.1 t.0 t.1 g one more)))))
  where
    ended : (r f b c d : List ℕ) → r ≡ f ++ b → b ≡ c ++ d → r ≡ [] ++ f ++ c ++ d
    ended r f b c d e1 e2 = rw (e1, e2) (simp append_assoc)

pub tag_gives : (checks : AttributeChecks) (rest : List ℕ) → Gives (tag_at checks rest) (λ t. Tagged checks [] rest t.0 t.1)
tag_gives checks rest = tag_rest_gives checks (length rest) [] rest
