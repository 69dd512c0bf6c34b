-- Logs: no item but a Kept changes the log, so the bytes kept are those of the entries.
use Rattle.std.proofs.Common.{◌≡◌, ◌≤◌, ℕ, Bool, true, false, refl, sym, ap, subst, ◌∙◌, List, [], ◌∷◌, ◌++◌, append_assoc, append-nil}
use Rattle.std.specs.Prelude.{Option, Some, None}
use Rattle.std.proofs.lemmas.Bool.{and_parts}
use Rattle.std.proofs.lemmas.Slice.Eq.{bytes_eq-Decides}
use Rattle.definitions.specs.declared.logs.Entry.{Entry}
use Rattle.definitions.specs.Honest.{IsHonest, allowed}
use Rattle.definition_laws.proofs.ForPeers.{honest_push}
use Rattle.session_log.specs.Spelling.{log_bytes}
use Rattle.session_log.specs.Writing.{Writing, all_written}
use Rattle.session_log.specs.Writing as W
use Rattle.session_log.proofs.Logs.{log_written}
use Rattle.letters.specs.declared.letter.Letter.{Letter}
use Rattle.letters.specs.Reading.{letter_in}
use Rattle.datagram_post.specs.Items.{Item, BindCall, LogCall, PollCall, ReceiveCall, SendCall, KeepCall, SyncCall, Bound, LogBegun, Polled, Took, ReceiveNotYet, Gave, SendNotYet, Failed, Kept, Synced}
use Rattle.datagram_post.specs.Moved.{kept_at, kept_in}
use Rattle.peer_rules.specs.Entries.{entry_in}
use Rattle.peer_rules.specs.Order.{comes_next}
use Rattle.post_rules.specs.Views.{Setting, View, start}
use Rattle.post_rules.specs.Hearing.{heard_if, heard_letter, is_good}
use Rattle.post_rules.specs.Keeping.{may_keep_as, kept_entry}
use Rattle.post_rules.specs.After.{after, view_after}
use Rattle.post_rules.specs.Rules.{is_allowed}
use Rattle.post_rules.specs.Histories.{are_allowed}
use Rattle.post_rules.specs.Laws.{KeptBytesAreTheLog, KeptIsHonest}
use Rattle.post_rules.specs.Runs.{IsLogRun}
use Rattle.post_rules.proofs.Runs.{runs_next}

-- the same log and writer of the next entry, and the same setting
pub record Keeps (v w : View) : Type 0 where
  pub kept : w.kept ≡ v.kept
  pub writer : w.writer ≡ v.writer
  pub setting : w.setting ≡ v.setting

same : (v w : View) → w.kept ≡ v.kept → w.writer ≡ v.writer → w.setting ≡ v.setting → Keeps v w
same v w a b c = record { kept = a; writer = b; setting = c }

keeps_if : (b : Bool) (l : Letter) (v : View) → Keeps v (heard_if b l v)
keeps_if true l v = same v (heard_if true l v) refl refl refl
keeps_if false l v = same v (heard_if false l v) refl refl refl

keeps_letter : (o : Option Letter) (v : View) → Keeps v (heard_letter o v)
keeps_letter None v = same v (heard_letter None v) refl refl refl
keeps_letter (Some l) v = keeps_if (is_good v.setting.game.id v.partners l) l v

pub keeps_took : (v : View) (bytes : List ℕ) → Keeps v (after v (Took bytes))
keeps_took v bytes = (let k = keeps_letter (letter_in bytes) v in same v (after v (Took bytes)) k.kept k.writer k.setting)

-- entries that the items kept, after those of the view
pub record Adds (v later : View) (bytes : List ℕ) : Type 0 where
  pub entries : List Entry
  pub kept : later.kept ≡ v.kept ++ entries
  pub written : bytes ≡ all_written v.writer entries
  pub setting : later.setting ≡ v.setting
  pub honest : IsHonest v.setting.game v.setting.me v.kept → IsHonest v.setting.game v.setting.me later.kept
  pub runs : 1 ≤ v.setting.game.ahead → IsHonest v.setting.game v.setting.me v.kept → IsLogRun v.setting.game v.setting.me v.kept → IsLogRun v.setting.game v.setting.me later.kept

pub adds_none : (v w later : View) (bytes : List ℕ) → Keeps v w → Adds w later bytes → Adds v later bytes
adds_none v w later bytes k r = record {
  entries = r.entries;
  kept = r.kept ∙ ap (λ (x : List Entry). x ++ r.entries) k.kept;
  written = r.written ∙ ap (λ (x : Writing). all_written x r.entries) k.writer;
  setting = r.setting ∙ k.setting;
  honest = λ h. subst (λ (s : Setting). IsHonest s.game s.me later.kept) k.setting (r.honest (subst (λ (s : Setting). IsHonest s.game s.me w.kept) (sym k.setting) (subst (λ (x : List Entry). IsHonest v.setting.game v.setting.me x) (sym k.kept) h)));
  runs = λ d h x. subst (λ (s : Setting). IsLogRun s.game s.me later.kept) k.setting
      (r.runs (subst (λ (s : Setting). 1 ≤ s.game.ahead) (sym k.setting) d)
      (subst (λ (s : Setting). IsHonest s.game s.me w.kept) (sym k.setting) (subst (λ (z : List Entry). IsHonest v.setting.game v.setting.me z) (sym k.kept) h))
      (subst (λ (s : Setting). IsLogRun s.game s.me w.kept) (sym k.setting) (subst (λ (z : List Entry). IsLogRun v.setting.game v.setting.me z) (sym k.kept) x)));
}

adds_entry : (v later : View) (bytes more : List ℕ) (o : Option Entry) → may_keep_as v bytes o ≡ true → Adds (kept_entry v o) later more → Adds v later (bytes ++ more)
adds_entry v later bytes more None h r = absurd (cc)
adds_entry v later bytes more (Some e) h r =
    let p = and_parts _ _ h in
    let text : bytes ≡ W.written v.writer e = (bytes_eq-Decides bytes (W.written v.writer e)).0 p.0 in
    let next : comes_next v.setting.game v.setting.me v.kept e ≡ true = (and_parts _ _ p.1).0 in
    let may : allowed v.setting.game v.setting.me v.kept e ≡ true = (and_parts _ _ next).0 in
    record {
      entries = e ∷ r.entries;
      kept = r.kept ∙ append_assoc v.kept (e ∷ []) r.entries;
      written = ap (λ (x : List ℕ). x ++ more) text ∙ ap (λ (x : List ℕ). W.written v.writer e ++ x) r.written;
      setting = r.setting;
      honest = λ k. r.honest (honest_push v.setting.game v.setting.me v.kept e k may);
      runs = λ d k x. r.runs d (honest_push v.setting.game v.setting.me v.kept e k may) (runs_next v.setting.game v.setting.me v.kept e d k next x);
    }

pub adds_by : (v later : View) (item : Item) (more : List ℕ) → is_allowed v item ≡ true → Adds (after v item) later more → Adds v later (kept_at item ++ more)
adds_by v later (LogBegun name) more h r = adds_none v (after v (LogBegun name)) later more (same v (after v (LogBegun name)) refl refl refl) r
adds_by v later (Bound addr) more h r = adds_none v (after v (Bound addr)) later more (same v (after v (Bound addr)) refl refl refl) r
adds_by v later Polled more h r = adds_none v (after v Polled) later more (same v (after v Polled) refl refl refl) r
adds_by v later (Took bytes) more h r = adds_none v (after v (Took bytes)) later more (keeps_took v bytes) r
adds_by v later ReceiveNotYet more h r = adds_none v (after v ReceiveNotYet) later more (same v (after v ReceiveNotYet) refl refl refl) r
adds_by v later (Gave addr bytes) more h r = adds_none v (after v (Gave addr bytes)) later more (same v (after v (Gave addr bytes)) refl refl refl) r
adds_by v later (SendNotYet addr bytes) more h r = adds_none v (after v (SendNotYet addr bytes)) later more (same v (after v (SendNotYet addr bytes)) refl refl refl) r
adds_by v later (Kept bytes) more h r = adds_entry v later bytes more (entry_in v.writer bytes) (and_parts _ _ h).1 r
adds_by v later Synced more h r = adds_none v (after v Synced) later more (same v (after v Synced) refl refl refl) r
adds_by v later (Failed (BindCall addr)) more h r = adds_none v (after v (Failed (BindCall addr))) later more (same v (after v (Failed (BindCall addr))) refl refl refl) r
adds_by v later (Failed (LogCall name)) more h r = adds_none v (after v (Failed (LogCall name))) later more (same v (after v (Failed (LogCall name))) refl refl refl) r
adds_by v later (Failed PollCall) more h r = adds_none v (after v (Failed PollCall)) later more (same v (after v (Failed PollCall)) refl refl refl) r
adds_by v later (Failed ReceiveCall) more h r = adds_none v (after v (Failed ReceiveCall)) later more (same v (after v (Failed ReceiveCall)) refl refl refl) r
adds_by v later (Failed (SendCall addr bytes)) more h r = adds_none v (after v (Failed (SendCall addr bytes))) later more (same v (after v (Failed (SendCall addr bytes))) refl refl refl) r
adds_by v later (Failed (KeepCall bytes)) more h r = adds_none v (after v (Failed (KeepCall bytes))) later more (same v (after v (Failed (KeepCall bytes))) refl refl refl) r
adds_by v later (Failed SyncCall) more h r = adds_none v (after v (Failed SyncCall)) later more (same v (after v (Failed SyncCall)) refl refl refl) r

pub adds : (v : View) (items : List Item) → are_allowed v items ≡ true → Adds v (view_after v items) (kept_in items)
adds v [] h = record { entries = []; kept = sym (append-nil v.kept); written = refl; setting = refl; honest = λ k. k; runs = λ d k x. x }
adds v (item ∷ items) h =
    let p = and_parts _ _ h in
    adds_by v (view_after (after v item) items) item (kept_in items) p.0 (adds (after v item) items p.1)

pub kept_bytes_are_the_log : KeptBytesAreTheLog
kept_bytes_are_the_log s items h =
    let r = adds (start s) items h in
    r.written ∙ log_written s.game.id s.me r.entries ∙ ap (log_bytes s.game.id s.me) (sym r.kept)

pub kept_is_honest : KeptIsHonest
kept_is_honest v items honest h = (adds v items h).honest honest
