-- Plans, parts and indexes, computed on cases that were written out by hand.
use Rattle.std.proofs.Common.{◌≡◌, ℕ, List, [], ◌∷◌, None, refl}
use Rattle.std.specs.Prelude.{codes, map}
use Rattle.std.specs.Fmt.{digits}
use Rattle.article_head.specs.PartId.{part_id_text}
use Rattle.article_head.specs.Subject.{subject_text}
use Rattle.yenc_body.specs.Parts.{part_bytes, part_numbers}
use Rattle.poster.specs.Index.{index_of}
use Rattle.poster.specs.Plan.{planned_parts}
use Rattle.poster.specs.declared.index.PartEnd.TheVariants.{NotSent, Posted}
use Rattle.poster.specs.declared.index.Sent.{Sent}
use Rattle.poster.specs.declared.parts.Plan.{Plan}
use Rattle.poster.specs.declared.settings.Settings.{Settings}

abbrev settings_for : ℕ → Settings
settings_for part_size = record {
  server = [];
  login = None;
  from = codes "me@example.org";
  newsgroups = codes "alt.binaries.test,misc.test";
  token = codes "tok";
  domain = codes "example.org";
  comment = [];
  name = codes "d";
  line = 128;
  part_size = part_size;
  patience = 100;
}

-- ---- plans

pub two_parts : planned_parts (settings_for 5) 9
    ≡ record { first = 1; len = 5; id = codes "tok.1of2@example.org" } ∷ record { first = 6; len = 4; id = codes "tok.2of2@example.org" } ∷ []
unfolding part_id_text digits
two_parts = refl

pub full_parts : planned_parts (settings_for 3) 6
    ≡ record { first = 1; len = 3; id = codes "tok.1of2@example.org" } ∷ record { first = 4; len = 3; id = codes "tok.2of2@example.org" } ∷ []
unfolding part_id_text digits
full_parts = refl

-- a file without bytes has one part, without bytes
pub no_bytes : planned_parts (settings_for 3) 0 ≡ record { first = 1; len = 0; id = codes "tok.1of1@example.org" } ∷ []
unfolding part_id_text digits
no_bytes = refl

pub bytes_of_parts : map (part_bytes (codes "123456789") 4) (part_numbers 9 4) ≡ codes "1234" ∷ codes "5678" ∷ codes "9" ∷ []
bytes_of_parts = refl

pub no_bytes_of_part : map (part_bytes [] 4) (part_numbers 0 4) ≡ [] ∷ []
no_bytes_of_part = refl

-- ---- indexes

abbrev outcomes : List Sent
outcomes = record { end = Posted; bytes = 188 } ∷ record { end = NotSent; bytes = 0 } ∷ []

abbrev plan_of_nine : Plan
plan_of_nine = record { size = 9; parts = planned_parts (settings_for 5) 9 }

pub index : index_of (settings_for 5) plan_of_nine outcomes 1000000000 ≡ record {
  metas = [];
  files = record {
    poster = codes "me@example.org";
    date = 1000000000;
    subject = codes "\"d\" yEnc (1/2)";
    groups = codes "alt.binaries.test" ∷ codes "misc.test" ∷ [];
    segments = record { number = 1; bytes = 188; id = codes "tok.1of2@example.org" } ∷ record { number = 2; bytes = 0; id = codes "tok.2of2@example.org" } ∷ [];
  } ∷ [];
}
unfolding part_id_text subject_text digits
index = refl
