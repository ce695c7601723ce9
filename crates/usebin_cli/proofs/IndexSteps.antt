-- An index, step by step.
use Rattle.std.proofs.Common.{ℕ, List, Option, Ok, refl, inl, inr}
use Rattle.command_words.specs.CommandLine.Words.{Asks}
use Rattle.command_words.specs.CommandLine.Command.{Index as AsksIndex}
use Rattle.command_words.specs.Index.{IndexAsked}
use Rattle.input_files.specs.Reading.{Reading}
use Rattle.nzb_writer.specs.Canonical.{nzb_text}
use Rattle.overview_index.specs.declared.session.Indexed.{Indexed}
use Rattle.run_ends.specs.declared.end.End.{End}
use Rattle.run_ends.specs.declared.end.End.TheVariants.{Done, InputFault, Short, Limit as Passes, LoginBroken, NoMemory}
use Rattle.run_ends.specs.declared.end.Limit.TheVariants as limits
use Rattle.usebin_cli.specs.Index.{HasRun, Indexes, skipped_line}
use Rattle.usebin_cli.specs.Linked.{Linked, OpenedNone}
use Rattle.usebin_cli.specs.Login.{LoginFails}
use Rattle.usebin_cli.specs.Steps.{Runs, Stops, TellsIndexed}
use Rattle.usebin_cli.specs.Writing.{Written}
use Rattle.usebin_cli.specs.declared.ended.Ended.{Ended}
use Rattle.usebin_cli.proofs.EndLaws.{nothing_noted, wrote_behind}

-- no login was found, and no link was opened
pub no_login : (asked : IndexAsked) (files : Option (List (List ℕ × List ℕ))) (r : Reading) (t : Linked) (end : End) → LoginFails asked.login files r end → OpenedNone t → Stops (Asks (AsksIndex asked)) (Indexes asked files r t) r end
no_login asked files r t NoMemory fails none = λ w silent. (record { may = tt; read = fails.0; kept = tt; wrote = silent; noted = refl }, inl none)
no_login asked files r t InputFault fails none = λ w silent. (record { may = tt; read = (fails.0.faults, fails.0.shorts); kept = tt; wrote = silent; noted = refl }, (fails.0, none))
no_login asked files r t (Short place) fails none = λ w silent. (record { may = tt; read = fails.0; kept = tt; wrote = silent; noted = refl }, (fails.2, none))
no_login asked files r t (Passes limits.Login) fails none = λ w silent. (record { may = tt; read = fails.0; kept = tt; wrote = silent; noted = refl }, (fails.1, none))
no_login asked files r t (LoginBroken number) fails none = λ w silent. (record { may = tt; read = fails.0; kept = tt; wrote = silent; noted = refl }, (fails.2, none))
no_login asked files r t other fails none = absurd fails

-- what was skipped was noted, and the index written, or not for want of memory
pub indexed : (asked : IndexAsked) (files : Option (List (List ℕ × List ℕ))) (r : Reading) (t : Linked) (w e : Written) (made : Indexed) (ended : Ended) → HasRun asked files r t (Ok made) → TellsIndexed made w e ended →
    Runs (Asks (AsksIndex asked)) (Indexes asked files r t) r w e ended
indexed asked files r t w e made ended run (inl x) =
    nothing_noted (Asks (AsksIndex asked)) (Indexes asked files r t) r w e NoMemory ended x.0 x.1 x.3
    (record { may = tt; read = run.faultless; kept = tt; wrote = x.2; noted = refl }) (inr (Ok made, run))
indexed asked files r t w e made ended run (inr x) =
    wrote_behind (Asks (AsksIndex asked)) (Indexes asked files r t) r w e (skipped_line made.skipped) (nzb_text made.index) Done ended x
    (λ wrote. (record { may = tt; read = run.faultless; kept = tt; wrote = wrote.faults; noted = tt }, record { indexed = made; run = run; written = wrote; noted = refl }))
    (λ wrote. (record { may = tt; read = run.faultless; kept = tt; wrote = wrote.faults; noted = tt }, record { indexed = made; run = run; written = wrote; noted = refl }))
