-- Bound: what is asked where something is bound, or nothing is.
use Rattle.std.proofs.Common.{◌≡◌, ℕ, Bool, true, false, List, [], ◌∷◌, ◌++◌, refl, ap, ◌∙◌}
use Rattle.std.specs.Prelude.{is_ok, ◌&&◌}
use Rattle.std.proofs.lemmas.List.{append_assoc}
use Rattle.socket_station.specs.declared.answers.Addr.{Addr}
use Rattle.datagram_post.specs.declared.answers.Received.{Received}
use Rattle.datagram_post.specs.declared.answers.Received.TheVariants as R
use Rattle.datagram_post.specs.declared.answers.Sent.{Sent}
use Rattle.datagram_post.specs.declared.answers.Sent.TheVariants as S
use Rattle.machine_host.specs.Asks as A
use Rattle.machine_host.specs.Asks.{Ask, list_of}
use Rattle.post_mio.specs.declared.pace.TheConstants.{REST}
use Rattle.post_mio.specs.Mails.{MailState, PollsTo, Receives, ReceivesTo, Sends, SendsTo, Waits, WaitsFor, WaitsTwice}

-- where nothing is bound
pub polls_not : (is_bound : Bool) (a : MailState) → is_bound ≡ false → PollsTo is_bound false a a
polls_not true a e = absurd (cc)
polls_not false a e = (refl, refl)

pub receives_not : (is_bound : Bool) (buf : List ℕ) (a : MailState) → is_bound ≡ false → ReceivesTo is_bound R.Failed buf a a
receives_not true buf a e = absurd (cc)
receives_not false buf a e = (refl, refl)

pub sends_not : (is_bound : Bool) (addr : Addr) (bytes : List ℕ) (a : MailState) → is_bound ≡ false → SendsTo is_bound addr S.Failed bytes a a
sends_not true addr bytes a e = absurd (cc)
sends_not false addr bytes a e = (refl, refl)

-- where something is
pub polls_now : (is_bound is_done : Bool) (a b : MailState) → is_bound ≡ true → Waits is_done a b → PollsTo is_bound is_done a b
polls_now true is_done a b e w = w
polls_now false is_done a b e w = absurd (cc)

pub receives_now : (is_bound : Bool) (received : Received) (buf : List ℕ) (a b : MailState) → is_bound ≡ true → Receives received buf a b → ReceivesTo is_bound received buf a b
receives_now true received buf a b e w = w
receives_now false received buf a b e w = absurd (cc)

pub sends_now : (is_bound : Bool) (addr : Addr) (sent : Sent) (bytes : List ℕ) (a b : MailState) → is_bound ≡ true → Sends addr sent bytes a b → SendsTo is_bound addr sent bytes a b
sends_now true addr sent bytes a b e w = w
sends_now false addr sent bytes a b e w = absurd (cc)

-- one wait, and then another
pub waits_both : (millis : ℕ) (has_waited has_rested is_done : Bool) (before middle after : List Ask) → WaitsFor millis has_waited before middle → WaitsFor REST has_rested middle after →
    is_done ≡ (has_waited && has_rested) → WaitsTwice millis is_done before after
waits_both millis has_waited has_rested is_done before middle after w r e = (
  w.0,
  r.0,
  r.1 ∙ ap (λ (x : List Ask). x ++ A.Waited REST r.0 ∷ []) w.1 ∙ append_assoc before (A.Waited millis w.0 ∷ []) (A.Waited REST r.0 ∷ []),
  e ∙ ap (λ (x : Bool). x && has_rested) w.2 ∙ ap (λ (x : Bool). is_ok w.0 && x) r.2,
)
