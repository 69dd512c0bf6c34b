-- Hearing: what a datagram does that comes.
use Rattle.std.specs.Prelude.{ℕ, ◌+◌, Bool, true, false, ◌&&◌, ◌==◌, List, [], ◌∷◌, ◌++◌, Option, Some, None, map, max, min, ◌-◌, ◌^◌, find, not, is_none, if◌then◌else◌}
use Rattle.std.specs.Str.{bytes_eq}
use Rattle.definitions.specs.declared.frames.TurnFrame.{TurnFrame}
use Rattle.letters.specs.declared.letter.Letter.{Letter}
use Rattle.letters.specs.Reading.{letter_in}
use Rattle.peer_rules.specs.declared.arrivals.Arrival.{Arrival}
use Rattle.post_rules.specs.declared.partners.Partner.{Partner}
use Rattle.post_rules.specs.declared.drops.Cause.{Cause}
use Rattle.post_rules.specs.declared.drops.Cause.TheVariants as C
use Rattle.post_rules.specs.declared.drops.Drops.{Drops}
use Rattle.post_rules.specs.declared.limits.TheConstants.{MOST_DATAGRAMS}
use Rattle.post_rules.specs.Views.{Settling, View}

-- the partner of this number, if there is one
abbrev pub partner_of : List Partner → ℕ → Option Partner
partner_of partners q = find (λ p. p.link.player == q) partners

-- the letter has the session's id and the pass wanted of the player
abbrev pub is_good_for : (id : List ℕ) → Letter → Option Partner → Bool
is_good_for id l None = false
is_good_for id l (Some p) = bytes_eq l.id id && bytes_eq l.pass p.link.wants

-- the datagram is good: its letter is one of a player of the roster
abbrev pub is_good : (id : List ℕ) → List Partner → Letter → Bool
is_good id partners l = is_good_for id l (partner_of partners l.player)

-- a player told the place that it wants next
abbrev pub tells : (q place : ℕ) → Partner → Partner
tells q place p = if p.link.player == q then record p { told = max p.told place } else p

-- the partners after a player told a place
abbrev pub told_by : (q place : ℕ) → List Partner → List Partner
told_by q place partners = map (tells q place) partners

-- the frame of a letter, if it brings one, waits to be handled
abbrev pub brought_by : (q : ℕ) → Option TurnFrame → List Arrival
brought_by q None = []
brought_by q (Some f) = record { player = q; frame = f } ∷ []

-- Why a letter that isn't good is dropped: it has another session's id; or else none of the partners
-- is its player; or else it has another pass than the one wanted of that player.
abbrev pub cause_of : (id : List ℕ) → List Partner → Letter → Cause
cause_of id partners l =
    if not (bytes_eq l.id id) then C.Session else if is_none (partner_of partners l.player) then C.Player else C.Pass

-- one more, up to the greatest count there is
abbrev pub one_more : ℕ → ℕ
one_more n = min (n + 1) (2 ^ 64 - 1)

-- the counts after one more datagram was dropped for this cause
abbrev pub dropped_for : Cause → Drops → Drops
dropped_for C.Spelling d = record d { spelling = one_more d.spelling }
dropped_for C.Session d = record d { session = one_more d.session }
dropped_for C.Player d = record d { player = one_more d.player }
dropped_for C.Pass d = record d { pass = one_more d.pass }

-- a datagram is dropped for this cause: that is counted, and nothing else changes
abbrev pub dropped : Cause → View → View
dropped cause v = record v { drops = dropped_for cause v.drops }

-- a good letter is heard
abbrev pub heard : Letter → View → View
heard l v = record v { partners = told_by l.player l.next v.partners; waiting = v.waiting ++ brought_by l.player l.frame }

-- what is shown after a letter that is good, or is dropped
abbrev pub heard_if : Bool → Letter → View → View
heard_if good l v = if good then heard l v else dropped (cause_of v.setting.game.id v.partners l) v

-- what is shown after a datagram that spells a letter, or none
abbrev pub heard_letter : Option Letter → View → View
heard_letter None v = dropped C.Spelling v
heard_letter (Some l) v = heard_if (is_good v.setting.game.id v.partners l) l v

-- one more datagram was taken, perhaps the last one before the next poll
abbrev pub counted : Settling → Settling
counted p = record p { taken = p.taken + 1; is_received = p.taken + 1 == MOST_DATAGRAMS }

-- what is shown after a datagram of these bytes
abbrev pub took : List ℕ → View → View
took bytes v = let w = heard_letter (letter_in bytes) v in record w { settling = counted w.settling }

-- no more datagrams are there
abbrev pub received : View → View
received v = record v { settling = record v.settling { is_received = true } }
