-- What is known of contents, as they are read.
use Rattle.std.proofs.Common.{◌≡◌, ℕ, ◌+◌, List, Option, Some, None, IfSome, Result, Ok, Err, OnOk, ◌++◌, length, take, sym, ap, subst, ◌∙◌}
use Rattle.std.proofs.Math.Seq.{take-add}
use Rattle.md5.specs.Md5.{Holds}
use Rattle.md5.specs.declared.Md5.{Md5}
use Rattle.par2_check.specs.Checking.{IsNextPiece, Knows}
use Rattle.par2_check.specs.Damage.{IsChecked}
use Rattle.par2_check.specs.declared.check.Checked.{Checked}
use Rattle.par2_check.specs.declared.checking.Checking.{Checking}
use Rattle.par2_check.specs.declared.set.ParFile.{ParFile}

-- all bytes so far, with the next ones
pub whole_on : (content piece : List ℕ) (old new : Md5) (before after : ℕ) → IsNextPiece content before piece → after ≡ before + length piece → ((m : List ℕ) → Holds old m → Holds new (m ++ piece))
    → Holds old (take before content) → Holds new (take after content)
whole_on content piece old new before after next is update holds =
    let e : take before content ++ piece ≡ take after content =
    ap (λ (l : List ℕ). take before content ++ l) next.same ∙ sym (take-add before (length piece) content) ∙ ap (λ n. take n content) (sym is) in
    subst (Holds new) e (update _ holds)

pub on_ok_two : {T E : Type 0} {P Q R : Type 0} (result : Result T E) → OnOk result P → OnOk result Q → (P → Q → R) → OnOk result R
on_ok_two (Ok value) p q both = both p q
on_ok_two (Err error) p q both = tt

-- what is asked of contents that are told
pub checked_of : (slice : ℕ) (file : ParFile) (checking : Checking) (checked : Checked) (told : Option (List ℕ)) (len : ℕ) → IfSome told (λ content. length content ≡ len) → IfSome told (Knows slice file checking)
    → ((content : List ℕ) → length content ≡ len → Knows slice file checking content → IsChecked slice file content checked) → IfSome told (λ content. IsChecked slice file content checked)
checked_of slice file checking checked None len is knows judged = tt
checked_of slice file checking checked (Some content) len is knows judged = judged content is knows

-- what is known of contents of which no byte came
pub known_at_first : (slice : ℕ) (file : ParFile) (checking : Checking) (told : Option (List ℕ)) → ((content : List ℕ) → Knows slice file checking content) → IfSome told (Knows slice file checking)
known_at_first slice file checking None knows = tt
known_at_first slice file checking (Some content) knows = knows content
