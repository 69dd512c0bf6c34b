-- Sending: what stands after the calls that send.
use Rattle.std.specs.Prelude.{◌≡◌, ℕ, ◌-◌, min, max, List, [], ◌∷◌, ◌++◌}
use Rattle.post_rules.specs.declared.limits.TheConstants.{MOST_FRAMES}
use Rattle.post_rules.specs.declared.partners.Partner.{Partner}
use Rattle.post_rules.specs.Sending.{asked}
use Rattle.datagram_post.specs.declared.answers.Sent.{Sent}
use Rattle.datagram_post.specs.Items.{Item, send_item}
use Rattle.datagram_post.specs.Moved.{Mail}

-- one datagram was handed to `send`, whatever it answered
pub record SendsOne (mail : Mail) (before after : List Item) : Type 0 where
  pub answer : Sent
  pub told : after ≡ before ++ send_item answer mail.to mail.bytes ∷ []

-- each item is the answer to a send of the datagram at its place
abbrev pub AreAnswers : List Mail → List Item → Type 0
AreAnswers [] items = items ≡ []
AreAnswers (mail ∷ mails) [] = ⊥
AreAnswers (mail ∷ mails) (item ∷ items) = ((answer : Sent) × (item ≡ send_item answer mail.to mail.bytes)) × AreAnswers mails items

-- these datagrams were handed to `send`, one after the other
pub record SendsAll (mails : List Mail) (before after : List Item) : Type 0 where
  pub items : List Item
  pub told : after ≡ before ++ items
  pub answers : AreAnswers mails items

-- how many datagrams the player is sent, of so many own frames: one where there is none for it
abbrev pub count_for : (made : ℕ) → Partner → ℕ
count_for made p = max (min MOST_FRAMES (made - asked made p)) 1
