-- What a sink has got by two texts, one behind the other, of which one may be nothing.
use Rattle.std.proofs.Common.{◌≡◌, ℕ, List, ◌++◌, Bool, true, false, Option, Some, None, refl, ap, ◌∙◌, inl, inr}
use Rattle.io_traits.specs.Sink.{told_and}
use Rattle.run_ends.specs.Line.{line_of}
use Rattle.run_ends.specs.declared.end.End.{End}
use Rattle.usebin_cli.specs.Ended.{Noted, SaysLineIf, note_text}
use Rattle.usebin_cli.specs.Writing.{Written, Got, IsUntouched, WroteFront, WroteWhole}
use Rattle.usebin_cli.proofs.WritingLemmas.{front_of_longer, front_of_second, rose_from, told_and-append}

-- what is seen of a sink from one moment to another
abbrev pub between : (f0 f1 : ℕ) (t0 t1 : Option (List ℕ)) → Written
between f0 f1 t0 t1 = record { faults_before = f0; faults_now = f1; told_before = t0; told_now = t1 }

-- nothing, and then a text
nothing_then : (text : List ℕ) (f0 f1 f2 : ℕ) (t0 t1 t2 : Option (List ℕ)) → IsUntouched (between f0 f1 t0 t1) → Got text (between f1 f2 t1 t2) → Got text (between f0 f2 t0 t2)
nothing_then text f0 f1 f2 t0 t1 t2 none (inl w) = inl (record { faults = w.faults ∙ none.faults; told = w.told ∙ ap (λ t. told_and t text) none.told })
nothing_then text f0 f1 f2 t0 t1 t2 none (inr w) = inr (record { faults = rw none.faults at w.faults; front = (w.front.0, rw none.told at w.front.1) })

-- a front of a text is a front of a longer one
front_more : (first second : List ℕ) (f0 f1 f2 : ℕ) (t0 t1 t2 : Option (List ℕ)) → WroteFront first (between f0 f1 t0 t1) → IsUntouched (between f1 f2 t1 t2) → Got (first ++ second) (between f0 f2 t0 t2)
front_more first second f0 f1 f2 t0 t1 t2 w none =
    inr (record { faults = rw none.faults w.faults; front = front_of_longer t0 t2 first second (first ++ second) (w.front.0, none.told ∙ w.front.1) refl })

-- a whole text, and then another or a front of it
both : (first second : List ℕ) (f0 f1 f2 : ℕ) (t0 t1 t2 : Option (List ℕ)) → WroteWhole first (between f0 f1 t0 t1) → Got second (between f1 f2 t1 t2) → Got (first ++ second) (between f0 f2 t0 t2)
both first second f0 f1 f2 t0 t1 t2 w (inl v) =
    inl (record { faults = v.faults ∙ w.faults; told = v.told ∙ ap (λ t. told_and t second) w.told ∙ told_and-append t0 first second })
both first second f0 f1 f2 t0 t1 t2 w (inr v) =
    inr (record { faults = rose_from f0 f1 f2 w.faults v.faults; front = front_of_second t0 t1 t2 first second (first ++ second) w.told v.front refl })

-- what was noted, and the line of an end behind it
pub noted_and_said : (is_told : Bool) (note : Option (List ℕ)) (end : End) (f0 f1 f2 : ℕ) (t0 t1 t2 : Option (List ℕ)) → Noted is_told note (between f0 f1 t0 t1) → SaysLineIf is_told end (between f1 f2 t1 t2) →
    Got (note_text note ++ line_of end) (between f0 f2 t0 t2)
noted_and_said true None end f0 f1 f2 t0 t1 t2 noted says = nothing_then (line_of end) f0 f1 f2 t0 t1 t2 noted.1 says
noted_and_said false None end f0 f1 f2 t0 t1 t2 noted says = absurd (not_false noted.0)
  where
    not_false : false ≡ true → ⊥
    not_false e = absurd cc
noted_and_said true (Some note) end f0 f1 f2 t0 t1 t2 noted says = both note (line_of end) f0 f1 f2 t0 t1 t2 noted says
noted_and_said false (Some note) end f0 f1 f2 t0 t1 t2 noted says = front_more note (line_of end) f0 f1 f2 t0 t1 t2 noted says
