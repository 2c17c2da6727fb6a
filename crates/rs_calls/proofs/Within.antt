-- The forms of calls and changes are forms.
use Rattle.rs_encode.specs.Form.{IsForm}
use Rattle.rs_encode.proofs.Forms.{tested_is}
use Rattle.rs_calls.specs.Limits.{call_is_within, change_is_within, call, change}
use Rattle.rs_calls.proofs.Calls.{any_call_is}
use Rattle.rs_calls.proofs.Changes.{any_change_is}

pub call_is : IsForm call
unfolding call
call_is = tested_is call_is_within any_call_is

pub change_is : IsForm change
unfolding change
change_is = tested_is change_is_within any_change_is
