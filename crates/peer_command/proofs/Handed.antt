-- Handed: what was handed to `keep`, in a call that failed too, is the log kept by a history that kept all of it.
use Rattle.std.proofs.Common.{◌≡◌, ◌⊎◌, inl, inr, ℕ, true, refl, sym, ap, subst, ◌∙◌, List, [], ◌∷◌, ◌++◌, append_assoc, append-nil, drop}
use Rattle.std.specs.Prelude.{Option, Some, None, map}
use Rattle.std.specs.List.{flat_map}
use Rattle.std.proofs.lemmas.Bool.{and_from, and_parts}
use Rattle.std.proofs.lemmas.List.{take-append-drop}
use Rattle.definitions.specs.declared.logs.Entry.{Entry}
use Rattle.definition_laws.proofs.Listing.{flat_map_append}
use Rattle.session_log.specs.Spelling.{log_bytes}
use Rattle.socket_station.specs.Items.{Item, ListenCall, LogCall, DialCall, PollCall, ReadCall, WriteCall, KeepCall, SyncCall, Listening, LogBegun, Dialled, Polled, Took, Gave, ReadNotYet, WriteNotYet, Ended, Failed, Shut, Kept, Synced}
use Rattle.socket_station.specs.Moved.{kept_at, kept_in}
use Rattle.loop_rules.specs.Settings.{Setting}
use Rattle.loop_rules.specs.Views.{View, start}
use Rattle.peer_rules.specs.Entries.{entry_in}
use Rattle.loop_rules.specs.After.{after, view_after, view_of}
use Rattle.loop_rules.specs.Rules.{is_allowed}
use Rattle.loop_rules.specs.Histories.{are_allowed, IsHistory}
use Rattle.loop_rules.specs.Images.{handed_by, handed_in}
use Rattle.loop_rules.proofs.Ends.{none_behind}
use Rattle.loop_rules.proofs.Kept.{kept_bytes_are_the_log}
use Rattle.peer_command.specs.Crashes.{MayStop}
use Rattle.peer_command.proofs.Moves.{adds_entry}
use Rattle.peer_command.proofs.Synced.{safe, safe_grows}

-- the item, where the call failed that was to keep bytes as if it had kept them
abbrev pub as_kept : Item → Item
as_kept (Failed (KeepCall bytes)) = Kept bytes
as_kept item = item

-- a failed `keep`, or an item that is left as it is
abbrev pub IsAsKept : Item → Type 0
IsAsKept item = ((bytes : List ℕ) × (item ≡ Failed (KeepCall bytes))) ⊎ ((as_kept item ≡ item) × (kept_at item ≡ handed_by item))

is_as_kept : (item : Item) → IsAsKept item
is_as_kept (LogBegun name) = inr (refl, refl)
is_as_kept (Listening addr) = inr (refl, refl)
is_as_kept (Dialled s q addr) = inr (refl, refl)
is_as_kept (Polled list) = inr (refl, refl)
is_as_kept (Took s bytes) = inr (refl, refl)
is_as_kept (Gave s bytes) = inr (refl, refl)
is_as_kept (ReadNotYet s) = inr (refl, refl)
is_as_kept (WriteNotYet s) = inr (refl, refl)
is_as_kept (Ended s) = inr (refl, refl)
is_as_kept (Shut s) = inr (refl, refl)
is_as_kept (Kept bytes) = inr (refl, refl)
is_as_kept Synced = inr (refl, refl)
is_as_kept (Failed (ListenCall addr)) = inr (refl, refl)
is_as_kept (Failed (LogCall name)) = inr (refl, refl)
is_as_kept (Failed (DialCall q addr)) = inr (refl, refl)
is_as_kept (Failed PollCall) = inr (refl, refl)
is_as_kept (Failed (ReadCall s)) = inr (refl, refl)
is_as_kept (Failed (WriteCall s)) = inr (refl, refl)
is_as_kept (Failed (KeepCall bytes)) = inl (bytes, refl)
is_as_kept (Failed SyncCall) = inr (refl, refl)

kept_by : (item : Item) → IsAsKept item → kept_at (as_kept item) ≡ handed_by item
kept_by item (inl (bytes, is)) = subst (λ (x : Item). kept_at (as_kept x) ≡ handed_by x) (sym is) refl
kept_by item (inr (same, kept)) = ap kept_at same ∙ kept

kept_all : (items : List Item) → kept_in (map as_kept items) ≡ flat_map handed_by items
kept_all [] = refl
kept_all (item ∷ items) = ap (λ (x : List ℕ). x ++ kept_in (map as_kept items)) (kept_by item (is_as_kept item)) ∙ ap (λ (x : List ℕ). handed_by item ++ x) (kept_all items)

-- the items that kept all of it are allowed, and the entries that the last sync found stand first in the log
abbrev pub KeepsAll : View → (items kept : List Item) → Type 0
KeepsAll v items kept = (are_allowed v kept ≡ true) × ((more : List Entry) × ((view_after v kept).kept ≡ safe (view_after v items) ++ more))

keeps_last : (v : View) (bytes : List ℕ) (items : List Item) → are_allowed v (Failed (KeepCall bytes) ∷ items) ≡ true → KeepsAll v (Failed (KeepCall bytes) ∷ items) (Kept bytes ∷ map as_kept items)
keeps_last v bytes items h =
    let both = and_parts _ _ h in
    let r = adds_entry v bytes (entry_in v.writer bytes) refl both.0 in
    let last : KeepsAll v (Failed (KeepCall bytes) ∷ []) (Kept bytes ∷ []) = (
      and_from _ _ both.0 refl,
      (
        drop v.synced v.kept ++ r.entry ∷ [],
        r.keeps.kept ∙ ap (λ (x : List Entry). x ++ r.entry ∷ []) (sym (take-append-drop v.synced v.kept)) ∙ append_assoc (safe v) (drop v.synced v.kept) (r.entry ∷ []),
      ),
    ) in
    subst (λ (x : List Item). KeepsAll v (Failed (KeepCall bytes) ∷ x) (Kept bytes ∷ map as_kept x)) (sym (none_behind (after v (Failed (KeepCall bytes))) items refl both.1)) last

keeps_item : (v : View) (item : Item) (items : List Item) → is_allowed v item ≡ true → are_allowed (after v item) items ≡ true → KeepsAll (after v item) items (map as_kept items) → IsAsKept item →
    KeepsAll v (item ∷ items) (map as_kept (item ∷ items))
keeps_item v item items may h rest (inl (bytes, is)) =
    subst (λ (x : Item). KeepsAll v (x ∷ items) (map as_kept (x ∷ items))) (sym is) (keeps_last v bytes items (subst (λ (x : Item). are_allowed v (x ∷ items) ≡ true) is (and_from _ _ may h)))
keeps_item v item items may h rest (inr (same, kept)) =
    subst (λ (x : Item). KeepsAll v (item ∷ items) (x ∷ map as_kept items)) (sym same) (and_from _ _ may rest.0, rest.1)

keeps_all : (v : View) (items : List Item) → are_allowed v items ≡ true → KeepsAll v items (map as_kept items)
keeps_all v [] h = (refl, (drop v.synced v.kept, sym (take-append-drop v.synced v.kept)))
keeps_all v (item ∷ items) h =
    let both = and_parts _ _ h in
    keeps_item v item items both.0 both.1 (keeps_all (after v item) items both.1) (is_as_kept item)

-- a history that kept all that was handed over
pub record IsHanded (s : Setting) (items : List Item) (next : Option Item) : Type 0 where
  pub all : List Item
  pub allowed : IsHistory s all
  pub bytes : handed_in items next ≡ log_bytes s.game.id s.me (view_of s all).kept
  pub behind : List Entry
  pub kept : (view_of s all).kept ≡ safe (view_of s items) ++ behind

handed_all : (s : Setting) (items : List Item) → (h : IsHistory s items) → flat_map handed_by items ≡ log_bytes s.game.id s.me (view_of s (map as_kept items)).kept
handed_all s items h = sym (kept_all items) ∙ kept_bytes_are_the_log s (map as_kept items) (keeps_all (start s) items h).0

pub is_handed : (s : Setting) (items : List Item) (next : Option Item) → MayStop s items next → IsHanded s items next
is_handed s items None h =
    let r = keeps_all (start s) items h in
    record { all = map as_kept items; allowed = r.0; bytes = append-nil (flat_map handed_by items) ∙ handed_all s items h; behind = r.1.0; kept = r.1.1 }
is_handed s items (Some item) h =
    let r = keeps_all (start s) (items ++ item ∷ []) h in
    let g = safe_grows s items (item ∷ []) h in
    let split : flat_map handed_by (items ++ item ∷ []) ≡ flat_map handed_by items ++ handed_by item
    = flat_map_append handed_by items (item ∷ []) ∙ ap (λ (x : List ℕ). flat_map handed_by items ++ x) (append-nil (handed_by item)) in
    record {
      all = map as_kept (items ++ item ∷ []);
      allowed = r.0;
      bytes = sym split ∙ handed_all s (items ++ item ∷ []) h;
      behind = g.0 ++ r.1.0;
      kept = r.1.1 ∙ ap (λ (x : List Entry). x ++ r.1.0) g.1 ∙ append_assoc (safe (view_of s items)) g.0 r.1.0;
    }
