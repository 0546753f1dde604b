use Rattle.dri_card16.proofs.SixteenBits.{kept_is_kept, packed_by_shifts, words_come_back}
use Rattle.dri_card16.proofs.packing.words.Goals as goal

pub returns-clause-shifts : goal.returns-clause-shifts
returns-clause-shifts c = packed_by_shifts

pub returns-clause-back : goal.returns-clause-back
returns-clause-back c = words_come_back

pub returns-clause-twice : goal.returns-clause-twice
returns-clause-twice c = kept_is_kept
