use Rattle.std.proofs.Common.{inl, inr}
use Rattle.rs_disk.specs.Disk.{settled}
use Rattle.rs_log.specs.Calls.{opening_calls}
use Rattle.rs_log.proofs.Openings.{Same, opening_good}
use Rattle.rs_log.proofs.Stops.{some_good, one_failed_good}
use Rattle.rs_log.proofs.laws.openings_keep_items.Goals as goal

pub returns : goal.returns
returns c bytes items gate more image short is (inl run) left = some_good (Same items) (settled bytes) (opening_calls bytes) more image (opening_good bytes items gate short is) run left
returns c bytes items gate more image short is (inr run) left = one_failed_good (Same items) (settled bytes) (opening_calls bytes) more image (opening_good bytes items gate short is) run left
