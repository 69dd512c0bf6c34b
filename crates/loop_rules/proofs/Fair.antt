-- Fair: the log kept is one that an honest peer may have.
use Rattle.std.proofs.Common.{◌≡◌, ℕ, true, refl, sym, ap, ◌∙◌, List, [], ◌∷◌, ◌++◌, append_assoc}
use Rattle.std.specs.Prelude.{Option, Some, None, length, slice_get}
use Rattle.std.proofs.lemmas.Bool.{and_parts, false≢true, or_left}
use Rattle.definitions.specs.declared.logs.Entry.{Entry}
use Rattle.definitions.specs.Honest.{allowed, honest_from, IsHonest}
use Rattle.definition_laws.proofs.Permits.{IsHonest_prefix}
use Rattle.definition_laws.proofs.ForPeers.{honest_push}
use Rattle.definition_laws.proofs.Behind.{reveal_behind_received}
use Rattle.socket_station.specs.Items.{Item, ListenCall, LogCall, DialCall, PollCall, ReadCall, WriteCall, KeepCall, SyncCall, Listening, LogBegun, Dialled, Polled, Took, Gave, ReadNotYet, WriteNotYet, Ended, Failed, Shut, Kept, Synced}
use Rattle.peer_rules.proofs.Entries.{entry_is}
use Rattle.loop_rules.specs.Settings.{Setting}
use Rattle.peer_rules.specs.declared.phases.Phase.{Phase}
use Rattle.peer_rules.specs.declared.phases.Phase.TheVariants.{Fresh, Logged, Running, KeepFault, PollFault}
use Rattle.loop_rules.specs.Views.{View, start}
use Rattle.loop_rules.specs.Keeping.{may_keep_in, may_keep_as, with_entry, kept_entry}
use Rattle.peer_rules.specs.Entries.{entry_in, is_entry}
use Rattle.loop_rules.specs.After.{after, view_after}
use Rattle.loop_rules.specs.Rules.{is_allowed}
use Rattle.peer_rules.specs.Phases.{is_early}
use Rattle.loop_rules.specs.Histories.{are_allowed}
use Rattle.loop_rules.specs.Laws.{KeptIsHonest, RevealsKeptStandBehind}
use Rattle.loop_rules.proofs.Kept.{Keeps, keeps_same, keeps_took, keeps_sorted}

-- the log is honest, and before the loop listens it is a front of the entries taken over
abbrev pub Fair : Setting → View → Type 0
Fair s v = (v.setting ≡ s) × IsHonest s.game s.me v.kept × (is_early v.phase ≡ true → (rest : List Entry) × (s.over ≡ v.kept ++ rest))

fair_keeps : (s : Setting) (v w : View) → Keeps v w → Fair s v → Fair s w
fair_keeps s v w k r = (
  k.setting ∙ r.0,
  ap (honest_from s.game s.me []) k.kept ∙ r.1,
  λ e. let x = r.2 (ap is_early (sym k.phase) ∙ e) in (x.0, x.1 ∙ ap (λ (y : List Entry). y ++ x.0) (sym k.kept)),
)

next_over : (kept rest : List Entry) (d : Entry) → slice_get (kept ++ rest) (length kept) ≡ Some d → (more : List Entry) × (rest ≡ d ∷ more)
next_over [] [] d e = absurd (cc)
next_over [] (r ∷ rest) d e = (rest, cc)
next_over (k ∷ kept) rest d e = next_over kept rest d e

fair_over : (s : Setting) (v : View) (e : Entry) → IsHonest s.game s.me s.over → v.phase ≡ Logged → is_entry (slice_get v.setting.over (length v.kept)) e ≡ true → Fair s v → Fair s (with_entry e v)
fair_over s v e over same h r =
    let x = r.2 (ap is_early same) in
    let there : slice_get (v.kept ++ x.0) (length v.kept) ≡ Some e =
    ap (λ (y : List Entry). slice_get y (length v.kept)) (sym x.1) ∙ ap (λ (z : Setting). slice_get z.over (length v.kept)) (sym r.0)
    ∙ entry_is (slice_get v.setting.over (length v.kept)) e h in
    let m = next_over v.kept x.0 e there in
    let all : s.over ≡ (v.kept ++ e ∷ []) ++ m.0 =
    x.1 ∙ ap (λ (y : List Entry). v.kept ++ y) m.1 ∙ sym (append_assoc v.kept (e ∷ []) m.0) in (
      r.0,
      IsHonest_prefix s.game s.me (v.kept ++ e ∷ []) m.0 (ap (honest_from s.game s.me []) (sym all) ∙ over),
      λ early. (m.0, all),
    )

fair_logged : (s : Setting) (v : View) (e : Entry) → v.phase ≡ Running → allowed v.setting.game v.setting.me v.kept e ≡ true → Fair s v → Fair s (with_entry e v)
fair_logged s v e same h r = (
  r.0,
  honest_push s.game s.me v.kept e r.1 (ap (λ (z : Setting). allowed z.game z.me v.kept e) (sym r.0) ∙ h),
  λ early. absurd (false≢true (sym (ap is_early same) ∙ early)),
)

pub fair_entry : (s : Setting) (v : View) (e : Entry) (p : Phase) → IsHonest s.game s.me s.over → v.phase ≡ p → may_keep_in p v e ≡ true → Fair s v → Fair s (with_entry e v)
fair_entry s v e Fresh over same h r = absurd (false≢true h)
fair_entry s v e Logged over same h r = fair_over s v e over same h r
fair_entry s v e Running over same h r = fair_logged s v e same (and_parts _ _ h).0 r
fair_entry s v e KeepFault over same h r = absurd (false≢true h)
fair_entry s v e PollFault over same h r = absurd (false≢true h)

pub fair_kept : (s : Setting) (v : View) (bytes : List ℕ) (o : Option Entry) → IsHonest s.game s.me s.over → may_keep_as v bytes o ≡ true → Fair s v → Fair s (kept_entry v o)
fair_kept s v bytes None over h r = r
fair_kept s v bytes (Some e) over h r =
    let w = with_entry e v in
    fair_keeps s w (kept_entry v (Some e)) (keeps_sorted w.table.waiting w) (fair_entry s v e v.phase over refl (and_parts _ _ h).1 r)

pub fair_item : (s : Setting) (v : View) (item : Item) → IsHonest s.game s.me s.over → is_allowed v item ≡ true → Fair s v → Fair s (after v item)
fair_item s v (LogBegun name) over h r = (r.0, r.1, λ early. r.2 (or_left _ _ h))
fair_item s v (Listening addr) over h r = (r.0, r.1, λ early. absurd (false≢true early))
fair_item s v (Dialled n q addr) over h r = fair_keeps s v (after v (Dialled n q addr)) (keeps_same v (after v (Dialled n q addr)) refl refl refl refl refl) r
fair_item s v (Polled list) over h r = fair_keeps s v (after v (Polled list)) (keeps_same v (after v (Polled list)) refl refl refl refl refl) r
fair_item s v (Took n bytes) over h r = fair_keeps s v (after v (Took n bytes)) (keeps_took v n bytes) r
fair_item s v (Gave n bytes) over h r = fair_keeps s v (after v (Gave n bytes)) (keeps_same v (after v (Gave n bytes)) refl refl refl refl refl) r
fair_item s v (ReadNotYet n) over h r = fair_keeps s v (after v (ReadNotYet n)) (keeps_same v (after v (ReadNotYet n)) refl refl refl refl refl) r
fair_item s v (WriteNotYet n) over h r = fair_keeps s v (after v (WriteNotYet n)) (keeps_same v (after v (WriteNotYet n)) refl refl refl refl refl) r
fair_item s v (Ended n) over h r = fair_keeps s v (after v (Ended n)) (keeps_same v (after v (Ended n)) refl refl refl refl refl) r
fair_item s v (Shut n) over h r = fair_keeps s v (after v (Shut n)) (keeps_same v (after v (Shut n)) refl refl refl refl refl) r
fair_item s v (Kept bytes) over h r = fair_kept s v bytes (entry_in v.writer bytes) over h r
fair_item s v Synced over h r = r
fair_item s v (Failed (ListenCall addr)) over h r = (r.0, r.1, λ early. absurd (false≢true early))
fair_item s v (Failed (LogCall name)) over h r = (r.0, r.1, λ early. absurd (false≢true early))
fair_item s v (Failed (DialCall q addr)) over h r = fair_keeps s v (after v (Failed (DialCall q addr))) (keeps_same v (after v (Failed (DialCall q addr))) refl refl refl refl refl) r
fair_item s v (Failed PollCall) over h r = (r.0, r.1, λ early. absurd (false≢true early))
fair_item s v (Failed (ReadCall n)) over h r = fair_keeps s v (after v (Failed (ReadCall n))) (keeps_same v (after v (Failed (ReadCall n))) refl refl refl refl refl) r
fair_item s v (Failed (WriteCall n)) over h r = fair_keeps s v (after v (Failed (WriteCall n))) (keeps_same v (after v (Failed (WriteCall n))) refl refl refl refl refl) r
fair_item s v (Failed (KeepCall bytes)) over h r = (r.0, r.1, λ early. absurd (false≢true early))
fair_item s v (Failed SyncCall) over h r = (r.0, r.1, λ early. absurd (false≢true early))

fair_all : (s : Setting) (v : View) (items : List Item) → IsHonest s.game s.me s.over → are_allowed v items ≡ true → Fair s v → Fair s (view_after v items)
fair_all s v [] over h r = r
fair_all s v (item ∷ items) over h r =
    let p = and_parts _ _ h in
    fair_all s (after v item) items over p.1 (fair_item s v item over p.0 r)

pub fair_first : (s : Setting) → IsHonest s.game s.me s.over → Fair s (start s)
fair_first s over = (refl, IsHonest_prefix s.game s.me [] s.over over, λ early. (s.over, refl))

pub kept_is_honest : KeptIsHonest
kept_is_honest s items over h = (fair_all s (start s) items over h (fair_first s over)).1

pub reveals_kept_stand_behind : RevealsKeptStandBehind
reveals_kept_stand_behind s items g rest t q m n ahead over h same lt other met =
    reveal_behind_received s.game s.me t q g rest m n ahead (sym (ap (honest_from s.game s.me []) same) ∙ kept_is_honest s items over h) lt other met
