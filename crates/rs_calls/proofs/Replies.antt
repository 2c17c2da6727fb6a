-- The form of replies to calls is one.
use Rattle.rs_ast.specs.declared.entry.Entry.{Entry}
use Rattle.rs_base.specs.declared.lock.Resource.{Resource}
use Rattle.rs_base.specs.declared.name.Swn.{Swn}
use Rattle.rs_base.specs.declared.reply.Denial.{Denial}
use Rattle.rs_base.specs.declared.txn.Enlist.{Enlist}
use Rattle.rs_base.specs.declared.value.Value.{Value}
use Rattle.rs_calls.proofs.Programs.{body_is, head_is}
use Rattle.rs_calls.specs.Replies.{call_reply, call_reply_of, call_reply_parts}
use Rattle.rs_encode.proofs.Cases.{enum_is, first_is, last_is}
use Rattle.rs_encode.proofs.Forms.{bare_is, both_is}
use Rattle.rs_encode.proofs.Lists.{list_is, option_is}
use Rattle.rs_encode.proofs.Numbers.{eight_bytes_is}
use Rattle.rs_encode.proofs.Values.{bool_is, denial_is, enlist_is, resource_is, site_is, swn_is, value_is}
use Rattle.rs_encode.specs.Form.{IsForm}
use Rattle.rs_encode_ast.proofs.Entries.{entry_is}
use Rattle.rs_plan.specs.declared.call_reply.CallReply.{CallReply}
use Rattle.rs_plan.specs.declared.call_reply.CallReply.TheVariants as replies
use Rattle.rs_plan.specs.declared.program.Body.{Body}
use Rattle.rs_plan.specs.declared.program.Head.{Head}
use Rattle.std.proofs.Common.{Bool, List, Option, arith, inl, inr, refl, ℕ, ◌≡◌, ◌⊎◌}

call_reply_made : (x : CallReply) → call_reply_of (call_reply_parts x) ≡ x
call_reply_made (replies.Name field) = refl
call_reply_made replies.Done = refl
call_reply_made replies.Taken = refl
call_reply_made replies.Absent = refl
call_reply_made (replies.Place field) = refl
call_reply_made (replies.Entry field) = refl
call_reply_made replies.NotHere = refl
call_reply_made (replies.Rows rows more) = refl
call_reply_made (replies.Changed field) = refl
call_reply_made (replies.Refused field) = refl
call_reply_made replies.Stale = refl
call_reply_made replies.Invalid = refl
call_reply_made (replies.Head field) = refl
call_reply_made (replies.Body field) = refl
call_reply_made (replies.Waited first second) = refl

call_reply_kept : (f : (Option Swn) ⊎ ((Unit {0}) ⊎ ((Unit {0}) ⊎ ((Unit {0}) ⊎ ((Option ℕ) ⊎ (Entry ⊎ ((Unit {0}) ⊎ (((List (List
    Value)) × Bool) ⊎ (ℕ ⊎ (Denial ⊎ ((Unit {0}) ⊎ ((Unit {0}) ⊎ ((Option Head) ⊎ (Body ⊎ (Resource ×
    Enlist)))))))))))))))
    → call_reply_parts (call_reply_of f) ≡ f
call_reply_kept (inl f) = refl
call_reply_kept (inr (inl f)) = refl
call_reply_kept (inr (inr (inl f))) = refl
call_reply_kept (inr (inr (inr (inl f)))) = refl
call_reply_kept (inr (inr (inr (inr (inl f))))) = refl
call_reply_kept (inr (inr (inr (inr (inr (inl f)))))) = refl
call_reply_kept (inr (inr (inr (inr (inr (inr (inl f))))))) = refl
call_reply_kept (inr (inr (inr (inr (inr (inr (inr (inl f)))))))) = refl
call_reply_kept (inr (inr (inr (inr (inr (inr (inr (inr (inl f))))))))) = refl
call_reply_kept (inr (inr (inr (inr (inr (inr (inr (inr (inr (inl f)))))))))) = refl
call_reply_kept (inr (inr (inr (inr (inr (inr (inr (inr (inr (inr (inl f))))))))))) = refl
call_reply_kept (inr (inr (inr (inr (inr (inr (inr (inr (inr (inr (inr (inl f)))))))))))) = refl
call_reply_kept (inr (inr (inr (inr (inr (inr (inr (inr (inr (inr (inr (inr (inl f))))))))))))) = refl
call_reply_kept (inr (inr (inr (inr (inr (inr (inr (inr (inr (inr (inr (inr (inr (inl f)))))))))))))) = refl
call_reply_kept (inr (inr (inr (inr (inr (inr (inr (inr (inr (inr (inr (inr (inr (inr f)))))))))))))) = refl

pub call_reply_is : IsForm call_reply
unfolding call_reply
call_reply_is = enum_is call_reply_of call_reply_parts call_reply_made call_reply_kept
    (first_is 1 (option_is swn_is) (omega arith)
    (first_is 2 bare_is (omega arith)
    (first_is 3 bare_is (omega arith)
    (first_is 4 bare_is (omega arith)
    (first_is 5 (option_is site_is) (omega arith)
    (first_is 6 entry_is (omega arith)
    (first_is 7 bare_is (omega arith)
    (first_is 8 (both_is (list_is (list_is value_is)) bool_is) (omega arith)
    (first_is 9 eight_bytes_is (omega arith)
    (first_is 10 denial_is (omega arith)
    (first_is 11 bare_is (omega arith)
    (first_is 12 bare_is (omega arith)
    (first_is 13 (option_is head_is) (omega arith)
    (first_is 14 body_is (omega arith)
    (last_is 15 (both_is resource_is enlist_is) (omega arith))))))))))))))))
