-- Kept: the entries that a run in stretches shows as kept are those that its items show in one.
use Rattle.std.proofs.Common.{◌≡◌, refl, sym, ap, subst, ◌∙◌, List, [], ◌∷◌, ◌++◌, append_assoc}
use Rattle.std.specs.Prelude.{Option, Some, None}
use Rattle.definitions.specs.declared.logs.Entry.{Entry}
use Rattle.session_log.specs.Writing.{Writing}
use Rattle.session_log.specs.Writing as W
use Rattle.datagram_post.specs.Items.{Item, BindCall, LogCall, PollCall, ReceiveCall, SendCall, KeepCall, SyncCall, Bound, LogBegun, Polled, Took, ReceiveNotYet, Gave, SendNotYet, Failed, Kept, Synced}
use Rattle.peer_rules.specs.Entries.{entry_in}
use Rattle.post_rules.specs.Views.{Setting, View, start, anew}
use Rattle.post_rules.specs.Keeping.{kept_entry}
use Rattle.post_rules.specs.After.{after, view_after}
use Rattle.post_rules.specs.Laws.{begin_view, joined, view_at}
use Rattle.post_rules.proofs.Logs.{Keeps, keeps_took}
use Rattle.post_rules.proofs.Told.{view_then}

-- the same of two views
alike : (v w x y : View) → Keeps v w → x.kept ≡ v.kept → x.writer ≡ v.writer → x.setting ≡ v.setting → y.kept ≡ w.kept → y.writer ≡ w.writer → y.setting ≡ w.setting → Keeps x y
alike v w x y k a b c d e f = record { kept = d ∙ k.kept ∙ sym a; writer = e ∙ k.writer ∙ sym b; setting = f ∙ k.setting ∙ sym c }

still : (v w x y : View) → Keeps v w → Keeps v x → Keeps w y → Keeps x y
still v w x y k a b = alike v w x y k a.kept a.writer a.setting b.kept b.writer b.setting

keeps_entry : (v w : View) (o : Option Entry) → Keeps v w → Keeps (kept_entry v o) (kept_entry w o)
keeps_entry v w None k = k
keeps_entry v w (Some e) k = record { kept = ap (λ (h : List Entry). h ++ e ∷ []) k.kept; writer = ap (λ (x : Writing). W.after x e) k.writer; setting = k.setting }

-- an item does the same to both logs
keeps_item : (v w : View) (item : Item) → Keeps v w → Keeps (after v item) (after w item)
keeps_item v w (LogBegun name) k = record { kept = k.kept; writer = k.writer; setting = k.setting }
keeps_item v w (Bound addr) k = record { kept = k.kept; writer = k.writer; setting = k.setting }
keeps_item v w Polled k = record { kept = k.kept; writer = k.writer; setting = k.setting }
keeps_item v w (Took bytes) k = still v w (after v (Took bytes)) (after w (Took bytes)) k (keeps_took v bytes) (keeps_took w bytes)
keeps_item v w ReceiveNotYet k = record { kept = k.kept; writer = k.writer; setting = k.setting }
keeps_item v w (Gave addr bytes) k = record { kept = k.kept; writer = k.writer; setting = k.setting }
keeps_item v w (SendNotYet addr bytes) k = record { kept = k.kept; writer = k.writer; setting = k.setting }
keeps_item v w (Kept bytes) k =
    subst (λ (o : Option Entry). Keeps (kept_entry v (entry_in v.writer bytes)) (kept_entry w o)) (ap (λ (x : Writing). entry_in x bytes) (sym k.writer)) (keeps_entry v w (entry_in v.writer bytes) k)
keeps_item v w Synced k = record { kept = k.kept; writer = k.writer; setting = k.setting }
keeps_item v w (Failed (BindCall addr)) k = record { kept = k.kept; writer = k.writer; setting = k.setting }
keeps_item v w (Failed (LogCall name)) k = record { kept = k.kept; writer = k.writer; setting = k.setting }
keeps_item v w (Failed PollCall) k = record { kept = k.kept; writer = k.writer; setting = k.setting }
keeps_item v w (Failed ReceiveCall) k = record { kept = k.kept; writer = k.writer; setting = k.setting }
keeps_item v w (Failed (SendCall addr bytes)) k = record { kept = k.kept; writer = k.writer; setting = k.setting }
keeps_item v w (Failed (KeepCall bytes)) k = record { kept = k.kept; writer = k.writer; setting = k.setting }
keeps_item v w (Failed SyncCall) k = record { kept = k.kept; writer = k.writer; setting = k.setting }

keeps_items : (v w : View) (items : List Item) → Keeps v w → Keeps (view_after v items) (view_after w items)
keeps_items v w [] k = k
keeps_items v w (item ∷ items) k = keeps_items (after v item) (after w item) items (keeps_item v w item k)

keeps_stretches : (v w : View) (front : List (List Item)) (items : List Item) → Keeps v w → Keeps (view_after v (joined front ++ items)) (view_after (begin_view w front) items)
keeps_stretches v w [] items k = keeps_items v w items k
keeps_stretches v w (xs ∷ front) items k =
    let one = keeps_items v w xs k in
    let later : Keeps (view_after v xs) (anew (view_after w xs)) = record { kept = one.kept; writer = one.writer; setting = one.setting } in
    let in_one : view_after v ((xs ++ joined front) ++ items) ≡ view_after (view_after v xs) (joined front ++ items) =
    ap (view_after v) (append_assoc xs (joined front) items) ∙ view_then v xs (joined front ++ items) in
    subst (λ (x : View). Keeps x (view_after (begin_view (anew (view_after w xs)) front) items)) (sym in_one) (keeps_stretches (view_after v xs) (anew (view_after w xs)) front items later)

pub kept_at_once : (s : Setting) (front : List (List Item)) (items : List Item) → (view_at s front items).kept ≡ (view_after (start s) (joined front ++ items)).kept
kept_at_once s front items = (let k = keeps_stretches (start s) (start s) front items (record { kept = refl; writer = refl; setting = refl }) in k.kept)
