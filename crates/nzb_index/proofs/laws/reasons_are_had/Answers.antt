use Rattle.std.proofs.Common.{refl}
use Rattle.nzb_index.specs.declared.error.NzbReason.TheVariants.{BadId, BadNumber, BadReference, DoubleAttribute, NoNumber, Subset, Unexpected, WrongTag}
use Rattle.nzb_index.proofs.KnownFirst.{nzb_ended}
use Rattle.nzb_index.proofs.ReasonsLaw.{reason_of}
use Rattle.nzb_index.proofs.laws.reasons_are_had.Goals as goal

pub returns : goal.returns
returns c = record {
  ended = nzb_ended;
  unexpected = reason_of Unexpected refl;
  bad_reference = reason_of BadReference refl;
  wrong_tag = reason_of WrongTag refl;
  double_attribute = reason_of DoubleAttribute refl;
  bad_number = reason_of BadNumber refl;
  no_number = reason_of NoNumber refl;
  bad_id = reason_of BadId refl;
  subset = reason_of Subset refl;
}
