-- How `encode` ends.
use Rattle.std.specs.Prelude.{◌≡◌, ℕ, List, length, Option, Some, None, Result, Ok, Err, IfSome, IsSomeAnd, ⊤}
use Rattle.yenc_body.specs.Canonical.{IsCanonicalBody, IsPart}
use Rattle.yenc_body.specs.Parts.{part_length, part_place}
use Rattle.yenc_body.specs.declared.spec.BodySpec.{BodySpec}
use Rattle.io_traits.specs.declared.blame.Blame.{Blame}
use Rattle.io_traits.specs.declared.blame.Blame.TheVariants.{Read, Open}
use Rattle.usebin_cli.specs.Body.{limit_of, part_spec}
use Rattle.yenc_text.specs.Text.{text_of}
use Rattle.command_words.specs.CommandLine.{PartAsked}
use Rattle.input_files.specs.Reading.{Reading, IsFaultless, HasFailed, IsIn, IsPieceAt}
use Rattle.usebin_cli.specs.Writing.{Written, WroteWhole, WroteFront}
use Rattle.usebin_cli.specs.declared.encode.AskedPart.{AskedPart}
use Rattle.run_ends.specs.declared.end.End.{End}
use Rattle.run_ends.specs.declared.end.End.TheVariants.{Done, InputFault, OutputFault, Short, Limit as Passes, NoMemory}
use Rattle.run_ends.specs.declared.end.Limit.{Limit}

-- a file of this length, if there is one, has the asked part and is within the limits
abbrev pub HasPart : PartAsked → Option ℕ → Type 0
HasPart asked current = IfSome current (λ size. limit_of asked.part_size asked.part size ≡ None)

-- there is a file of this length, and it or the part that is asked of it is refused for this
abbrev pub ExceedsLimit : PartAsked → Option ℕ → Limit → Type 0
ExceedsLimit asked current limit = IsSomeAnd current (λ size. limit_of asked.part_size asked.part size ≡ Some limit)

-- a place is one of the asked part in the opened file
abbrev pub IsInPart : PartAsked → Option ℕ → ℕ → Type 0
IsInPart asked current at = IsSomeAnd current (λ size. IsIn (part_place asked.part_size asked.part) (part_length size asked.part_size asked.part) at)

-- nothing is told of the failed call, or that it was a read in the asked part of the opened file, or the opening of its path
abbrev pub IsAskedCall : PartAsked → Option ℕ → Option Blame → Type 0
IsAskedCall asked current None = ⊤
IsAskedCall asked current (Some (Read at)) = IsInPart asked current at
IsAskedCall asked current (Some (Open name)) = name ≡ asked.path
IsAskedCall asked current (Some other) = ⊥

-- The text is that of the body of the asked part: its bytes are those that the input tells of the file, as many as the part
-- has in the opened file.
pub record IsEncoded (asked : PartAsked) (files : Option (List (List ℕ × List ℕ))) (current : Option ℕ) (text : List ℕ) : Type 0 where
  pub size : ℕ
  pub content : List ℕ
  pub lines : List (List ℕ)
  pub opened : current ≡ Some size
  pub told : IsPieceAt asked.path files size (part_place asked.part_size asked.part) content
  pub length_is : length content ≡ part_length size asked.part_size asked.part
  pub body : IsCanonicalBody (part_spec asked size) content lines
  pub text_is : text ≡ text_of lines

-- some such text was written whole, or only in front of a failed write
abbrev pub WroteEncoded : (List ℕ → Written → Type 0) → PartAsked → Option (List (List ℕ × List ℕ)) → Reading → Written → Type 0
WroteEncoded how asked files r w = (text : List ℕ) × IsEncoded asked files r.current text × how text w

-- what each end of `encode` says of the input and of the output, beside what it has in common with others
abbrev pub Encodes : PartAsked → Option (List (List ℕ × List ℕ)) → Reading → Written → End → Type 0
Encodes asked files r w Done = WroteEncoded WroteWhole asked files r w
Encodes asked files r w OutputFault = WroteEncoded WroteFront asked files r w
Encodes asked files r w InputFault = HasFailed (IsAskedCall asked r.current) r
Encodes asked files r w (Short place) = IsInPart asked r.current place
Encodes asked files r w (Passes limit) = ExceedsLimit asked r.current limit
Encodes asked files r w NoMemory = ⊤
Encodes asked files r w other = ⊥

-- ---- on the way there

-- a part that can be made of a file of this length, or what is wrong with it
abbrev pub IsPartOrLimit : PartAsked → ℕ → Result BodySpec Limit → Type 0
IsPartOrLimit asked size (Ok spec) =
    (limit_of asked.part_size asked.part size ≡ None) × (spec ≡ part_spec asked size)
    × IsPart spec (part_length size asked.part_size asked.part)
IsPartOrLimit asked size (Err limit) = limit_of asked.part_size asked.part size ≡ Some limit

-- the asked part of a file was read: which one it is, and its bytes
pub record IsAskedPart (asked : PartAsked) (files : Option (List (List ℕ × List ℕ))) (r : Reading) (part : AskedPart) : Type 0 where
  pub faultless : IsFaultless r
  pub opened : r.current ≡ Some part.spec.size
  pub fits : HasPart asked r.current
  pub told : IsPieceAt asked.path files part.spec.size (part_place asked.part_size asked.part) part.content
  pub length_is : length part.content ≡ part_length part.spec.size asked.part_size asked.part
  pub spec_is : part.spec ≡ part_spec asked part.spec.size
  pub is_part : IsPart part.spec (length part.content)
