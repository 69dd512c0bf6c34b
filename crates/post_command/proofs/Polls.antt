-- Polls: how many polls a stretch shows is how many it tells of.
use Rattle.std.proofs.Common.{◌≡◌, ℕ, ◌+◌, Bool, true, false, refl, List, [], ◌∷◌, ◌++◌, arith}
use Rattle.std.specs.Prelude.{Option, Some, None, cond}
use Rattle.std.proofs.lemmas.List.Sums.{sum_by-append}
use Rattle.definitions.specs.declared.logs.Entry.{Entry}
use Rattle.letters.specs.declared.letter.Letter.{Letter}
use Rattle.letters.specs.Reading.{letter_in}
use Rattle.datagram_post.specs.Items.{Item, BindCall, LogCall, PollCall, ReceiveCall, SendCall, KeepCall, SyncCall, Bound, LogBegun, Polled, Took, ReceiveNotYet, Gave, SendNotYet, Failed, Kept, Synced}
use Rattle.peer_rules.specs.Entries.{entry_in}
use Rattle.post_rules.specs.Views.{View}
use Rattle.post_rules.specs.Hearing.{heard_if, heard_letter, is_good}
use Rattle.post_rules.specs.Keeping.{kept_entry}
use Rattle.post_rules.specs.After.{after, view_after}
use Rattle.post_command.specs.Plays.{is_polled, polls_of}

polls_if : (b : Bool) (l : Letter) (v : View) → (heard_if b l v).settling.polls ≡ v.settling.polls
polls_if true l v = refl
polls_if false l v = refl

polls_letter : (o : Option Letter) (v : View) → (heard_letter o v).settling.polls ≡ v.settling.polls
polls_letter None v = refl
polls_letter (Some l) v = polls_if (is_good v.setting.game.id v.partners l) l v

polls_kept : (v : View) (o : Option Entry) → (kept_entry v o).settling.polls ≡ v.settling.polls
polls_kept v None = refl
polls_kept v (Some e) = refl

-- an item that is no poll
none_more : (m n : ℕ) → m ≡ n → m ≡ n + 0
none_more m n e = omega arith

polls_item : (v : View) (item : Item) → (after v item).settling.polls ≡ v.settling.polls + cond (is_polled item) 1 0
polls_item v (LogBegun name) = none_more _ _ refl
polls_item v (Bound addr) = none_more _ _ refl
polls_item v Polled = refl
polls_item v (Took bytes) = none_more _ _ (polls_letter (letter_in bytes) v)
polls_item v ReceiveNotYet = none_more _ _ refl
polls_item v (Gave addr bytes) = none_more _ _ refl
polls_item v (SendNotYet addr bytes) = none_more _ _ refl
polls_item v (Kept bytes) = none_more _ _ (polls_kept v (entry_in v.writer bytes))
polls_item v Synced = none_more _ _ refl
polls_item v (Failed (BindCall addr)) = none_more _ _ refl
polls_item v (Failed (LogCall name)) = none_more _ _ refl
polls_item v (Failed PollCall) = none_more _ _ refl
polls_item v (Failed ReceiveCall) = none_more _ _ refl
polls_item v (Failed (SendCall addr bytes)) = none_more _ _ refl
polls_item v (Failed (KeepCall bytes)) = none_more _ _ refl
polls_item v (Failed SyncCall) = none_more _ _ refl

pub polls_joined : (xs ys : List Item) → polls_of (xs ++ ys) ≡ polls_of xs + polls_of ys
polls_joined xs ys = sum_by-append (λ (i : Item). cond (is_polled i) 1 0) xs ys

pub polls_after : (v : View) (items : List Item) → (view_after v items).settling.polls ≡ v.settling.polls + polls_of items
polls_after v [] = none_more _ _ refl
polls_after v (item ∷ items) =
    let a = polls_item v item in
    let b = polls_after (after v item) items in
    let first = polls_joined (item ∷ []) items in
    let one : polls_of (item ∷ []) ≡ 0 + cond (is_polled item) 1 0 = refl in
    omega (arith, a, b, first, one)
