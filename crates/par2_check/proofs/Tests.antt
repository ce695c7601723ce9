-- Tests behind one another, of which the first ones are known.
use Rattle.std.proofs.Common.{◌≡◌, Bool, true, false, sym, ap, ◌∙◌}
use Rattle.std.specs.Prelude.{◌&&◌}

pub both : (k o l r : Bool) → k ≡ true → o ≡ true → r ≡ l → r ≡ (k && o && l)
both k o l r kt ot is = is ∙ sym (ap (λ (b : Bool). b && o && l) kt ∙ ap (λ (b : Bool). b && l) ot)

pub second_fails : (k o l r : Bool) → k ≡ true → o ≡ false → r ≡ o → r ≡ (k && o && l)
second_fails k o l r kt of is = is ∙ of ∙ sym (ap (λ (b : Bool). b && o && l) kt ∙ ap (λ (b : Bool). b && l) of)

pub first_fails : (k s m l : Bool) → k ≡ false → false ≡ (k && s && m && l)
first_fails k s m l kf = sym (ap (λ (b : Bool). b && s && m && l) kf)

pub second_of_four : (k s m l : Bool) → k ≡ true → s ≡ false → false ≡ (k && s && m && l)
second_of_four k s m l kt sf = sym (ap (λ (b : Bool). b && s && m && l) kt ∙ ap (λ (b : Bool). b && m && l) sf)

pub third_of_four : (k s m l : Bool) → k ≡ true → s ≡ true → m ≡ false → false ≡ (k && s && m && l)
third_of_four k s m l kt st mf = sym (ap (λ (b : Bool). b && s && m && l) kt ∙ ap (λ (b : Bool). b && m && l) st ∙ ap (λ (b : Bool). b && l) mf)

pub all_four : (k s m l r : Bool) → k ≡ true → s ≡ true → m ≡ true → r ≡ l → r ≡ (k && s && m && l)
all_four k s m l r kt st mt is = is ∙ sym (ap (λ (b : Bool). b && s && m && l) kt ∙ ap (λ (b : Bool). b && m && l) st ∙ ap (λ (b : Bool). b && l) mt)
