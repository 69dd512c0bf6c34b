-- Survived: a peer that was stopped goes on from what a crash left of its log.
use Rattle.std.proofs.Common.{◌≡◌, ◌⊎◌, inl, inr, ℕ, ◌<◌, true, false, sym, ap, subst, ◌∙◌, List, [], ◌∷◌, ◌++◌, length, take, drop, append_assoc}
use Rattle.std.specs.Prelude.{Option, Some, None, nat_le, nat_lt}
use Rattle.std.proofs.lemmas.Bool.{and_parts, leb-true, le-ltb}
use Rattle.std.proofs.lemmas.List.{take-append-drop}
use Rattle.std.proofs.lemmas.Slice.Eq.{bytes_eq-Decides}
use Rattle.definitions.specs.Lists.{EachIs}
use Rattle.definitions.specs.declared.limits.TheConstants.{LONGEST_LOG}
use Rattle.definitions.specs.declared.logs.Entry.{Entry}
use Rattle.definitions.specs.Logs.{made}
use Rattle.definitions.specs.Honest.{IsHonest}
use Rattle.definitions.specs.World.{Game, players_of}
use Rattle.definition_laws.proofs.Permits.{IsHonest_prefix}
use Rattle.session_log.specs.Spelling.{log_bytes}
use Rattle.socket_station.specs.Items.{Item}
use Rattle.socket_station.specs.Moved.{synced_in}
use Rattle.loop_rules.specs.Settings.{Setting}
use Rattle.loop_rules.specs.After.{view_of}
use Rattle.loop_rules.specs.Histories.{IsHistory}
use Rattle.loop_rules.specs.Images.{IsImage, handed_in, has_lucky_tail, lucky_from}
use Rattle.loop_rules.proofs.Fair.{kept_is_honest}
use Rattle.loop_rules.proofs.Prefixes.{prefixes}
use Rattle.peer_core.specs.Resuming.{first_not_replayed}
use Rattle.peer_core.proofs.Replaying.{all_replayed}
use Rattle.old_log.specs.Old.{old_owner, old_entries, is_anothers, breach, old_fault}
use Rattle.peer_command.specs.Crashes.{MayStop, GaveOf, StaysOf, GoesOnFrom, CrashesAreSurvived}
use Rattle.peer_command.proofs.Moves.{IsRead}
use Rattle.peer_command.proofs.Synced.{safe, synced_bytes, read_kept}
use Rattle.peer_command.proofs.Given.{gave_safe, own_stay}
use Rattle.peer_command.proofs.Over.{Begins, over_synced}
use Rattle.peer_command.proofs.Honest.{honest_well_formed}
use Rattle.peer_command.proofs.Handed.{IsHanded, is_handed}
use Rattle.peer_command.proofs.Left.{Left, left}

-- the items told are a history, wherever the run stopped
stopped : (s : Setting) (items : List Item) (next : Option Item) → MayStop s items next → IsHistory s items
stopped s items None h = h
stopped s items (Some item) h = prefixes s items (item ∷ []) h

-- the bytes synced stand first
image_is : (items : List Item) (image : List ℕ) → IsImage items image → image ≡ synced_in items ++ drop (length (synced_in items)) image
image_is items image h =
    let n : ℕ = length (synced_in items) in
    let same = (bytes_eq-Decides (take n image) (synced_in items)).0 (and_parts _ _ h).0 in
    sym (take-append-drop n image) ∙ ap (λ (x : List ℕ). x ++ drop n image) same

-- a log that is short enough, the player's own, and honest is not refused
no_fault : (game : Game) (me : ℕ) (image : List ℕ) → nat_le (length image) LONGEST_LOG ≡ true → is_anothers me (old_owner game image) (old_entries game image) ≡ false →
    IsHonest game me (old_entries game image) → old_fault game me image ≡ None
no_fault game me image short own honest =
    let fits : nat_lt LONGEST_LOG (length image) ≡ false = le-ltb LONGEST_LOG (length image) (leb-true (length image) LONGEST_LOG short) in
    let replayed : first_not_replayed game me [] (old_entries game image) ≡ None = all_replayed game me [] (old_entries game image) honest in
    rw (fits, own) (ap (breach game me (old_entries game image)) replayed)

-- what is left of a history that kept all that was handed over
left_of : (s : Setting) (items : List Item) (next : Option Item) (image : List ℕ) (all : IsHanded s items next) → s.me < players_of s.game → IsHistory s items → IsImage items image →
    has_lucky_tail s (handed_in items next) image ≡ false → IsHonest s.game s.me (view_of s all.all).kept → Left s.game s.me image (safe (view_of s items)) all.behind
left_of s items next image all known h is unlucky honest =
    let synced : List Entry = safe (view_of s items) in
    let rest : List ℕ = drop (length (synced_in items)) image in
    let start : image ≡ log_bytes s.game.id s.me synced ++ rest = image_is items image is ∙ ap (λ (x : List ℕ). x ++ rest) (synced_bytes s items h) in
    let bytes : handed_in items next ≡ log_bytes s.game.id s.me (synced ++ all.behind) = all.bytes ∙ ap (log_bytes s.game.id s.me) all.kept in
    let none : lucky_from s.game.id (log_bytes s.game.id s.me (synced ++ all.behind)) image ≡ false = subst (λ (x : List ℕ). lucky_from s.game.id x image ≡ false) bytes unlucky in
    let read : EachIs IsRead (synced ++ all.behind) = subst (EachIs IsRead) all.kept (read_kept s all.all all.allowed) in
    let fair : IsHonest s.game s.me (synced ++ all.behind) = subst (IsHonest s.game s.me) all.kept honest in
    left s.game s.me synced all.behind image rest known (read, honest_well_formed s.game s.me (synced ++ all.behind) fair) start none

-- the entries that a sync found begin with those taken over, so all do
over_old : (s : Setting) (items : List Item) (synced more old : List Entry) → old ≡ synced ++ more → (synced_in items ≡ []) ⊎ Begins s synced → (synced_in items ≡ []) ⊎ Begins s old
over_old s items synced more old is (inl none) = inl none
over_old s items synced more old is (inr b) = inr (b.0 ++ more, is ∙ ap (λ (x : List Entry). x ++ more) b.1 ∙ append_assoc s.over b.0 more)

-- and how a peer goes on from it
goes_on : (s : Setting) (items : List Item) (next : Option Item) (image : List ℕ) (all : IsHanded s items next) → IsHonest s.game s.me s.over → IsHistory s items → IsImage items image → IsHonest s.game s.me (view_of s all.all).kept →
    Left s.game s.me image (safe (view_of s items)) all.behind → GoesOnFrom s items next image
goes_on s items next image all over h is honest l =
    let synced : List Entry = safe (view_of s items) in
    let old : List Entry = old_entries s.game image in
    let parts : (view_of s all.all).kept ≡ old ++ l.lost
    = all.kept ∙ ap (λ (x : List Entry). synced ++ x) l.handed ∙ sym (append_assoc synced l.more l.lost) ∙ ap (λ (x : List Entry). x ++ l.lost) (sym l.entries) in
    let fair : IsHonest s.game s.me old = IsHonest_prefix s.game s.me old l.lost (subst (IsHonest s.game s.me) parts honest) in
    record {
      fit = no_fault s.game s.me image (and_parts _ _ is).1 l.own fair;
      lost = l.lost;
      handed = all.bytes ∙ ap (log_bytes s.game.id s.me) parts;
      more = l.more;
      synced = l.entries;
      over = over_old s items synced l.more old l.entries (over_synced s items over h);
      honest = fair;
      own = subst (λ (x : List Entry). StaysOf s items (made x)) (sym l.entries) (own_stay s items l.more h);
      given = subst (λ (x : List Entry). GaveOf s items (made x)) (sym l.entries) (gave_safe s items l.more h);
    }

pub crashes_are_survived : CrashesAreSurvived
crashes_are_survived s items next image known over h is unlucky =
    let told = stopped s items next h in
    let all = is_handed s items next h in
    let honest = kept_is_honest s all.all over all.allowed in
    goes_on s items next image all over told is honest (left_of s items next image all known told is unlucky honest)
