-- Prefixes: a history is taken apart at an item.
use Rattle.std.proofs.Common.{◌≡◌, ℕ, true, refl, List, [], ◌∷◌, ◌++◌}
use Rattle.std.proofs.lemmas.Bool.{and_from, and_parts}
use Rattle.socket_station.specs.Items.{Item, PollCall, Polled, Failed}
use Rattle.deposit_rules.specs.Views.{View, start}
use Rattle.deposit_rules.specs.After.{after, view_after}
use Rattle.deposit_rules.specs.Rules.{is_allowed}
use Rattle.deposit_rules.specs.Histories.{are_allowed}
use Rattle.deposit_rules.specs.Laws.{PrefixesAreHistories, ItemsAreAllowed, AllowedItemsAreAdded, PollsAreLicensed, FailedPollsAreLicensed}

before : (log : List ℕ) (v : View) (items more : List Item) → are_allowed log v (items ++ more) ≡ true → are_allowed log v items ≡ true
before log v [] more h = refl
before log v (item ∷ items) more h =
    and_from (is_allowed log v item) (are_allowed log (after v item) items) ((and_parts _ _ h).0) (before log (after v item) items more ((and_parts _ _ h).1))

later : (log : List ℕ) (v : View) (items more : List Item) → are_allowed log v (items ++ more) ≡ true → are_allowed log (view_after v items) more ≡ true
later log v [] more h = h
later log v (item ∷ items) more h = later log (after v item) items more ((and_parts _ _ h).1)

pub added : (log : List ℕ) (v : View) (items : List Item) (item : Item) → are_allowed log v items ≡ true → is_allowed log (view_after v items) item ≡ true → are_allowed log v (items ++ item ∷ []) ≡ true
added log v [] item h k = and_from (is_allowed log v item) true k refl
added log v (first ∷ items) item h k =
    and_from (is_allowed log v first) (are_allowed log (after v first) (items ++ item ∷ [])) ((and_parts _ _ h).0) (added log (after v first) items item ((and_parts _ _ h).1) k)

pub prefixes : PrefixesAreHistories
prefixes log s items more h = before log (start s) items more h

pub items_are_allowed : ItemsAreAllowed
items_are_allowed log s items more item h = (and_parts _ _ (later log (start s) items (item ∷ more) h)).0

pub allowed_are_added : AllowedItemsAreAdded
allowed_are_added log s items item h k = added log (start s) items item h k

pub polls_are_licensed : PollsAreLicensed
polls_are_licensed log s items more list h = items_are_allowed log s items more (Polled list) h

pub failed_polls_are_licensed : FailedPollsAreLicensed
failed_polls_are_licensed log s items more h = items_are_allowed log s items more (Failed PollCall) h
