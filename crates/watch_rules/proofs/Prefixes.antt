-- Prefixes: a history is taken apart at an item.
use Rattle.std.proofs.Common.{◌≡◌, true, refl, List, [], ◌∷◌, ◌++◌}
use Rattle.std.proofs.lemmas.Bool.{and_from, and_parts}
use Rattle.socket_station.specs.Items.{Item, PollCall, Polled, Failed}
use Rattle.watch_rules.specs.Views.{View, start}
use Rattle.watch_rules.specs.After.{after, view_after}
use Rattle.watch_rules.specs.Rules.{is_allowed}
use Rattle.watch_rules.specs.Histories.{are_allowed}
use Rattle.watch_rules.specs.Laws.{PrefixesAreHistories, ItemsAreAllowed, PollsAreLicensed, FailedPollsAreLicensed}

before : (v : View) (items more : List Item) → are_allowed v (items ++ more) ≡ true → are_allowed v items ≡ true
before v [] more h = refl
before v (item ∷ items) more h =
    and_from (is_allowed v item) (are_allowed (after v item) items) ((and_parts _ _ h).0)
    (before (after v item) items more ((and_parts _ _ h).1))

-- what follows is allowed after the view
later : (v : View) (items more : List Item) → are_allowed v (items ++ more) ≡ true → are_allowed (view_after v items) more ≡ true
later v [] more h = h
later v (item ∷ items) more h = later (after v item) items more ((and_parts _ _ h).1)

pub added : (v : View) (items : List Item) (item : Item) → are_allowed v items ≡ true → is_allowed (view_after v items) item ≡ true → are_allowed v (items ++ item ∷ []) ≡ true
added v [] item h k = and_from (is_allowed v item) true k refl
added v (first ∷ items) item h k =
    and_from (is_allowed v first) (are_allowed (after v first) (items ++ item ∷ [])) ((and_parts _ _ h).0)
    (added (after v first) items item ((and_parts _ _ h).1) k)

pub prefixes : PrefixesAreHistories
prefixes s items more h = before (start s) items more h

pub items_are_allowed : ItemsAreAllowed
items_are_allowed s items more item h =
    (and_parts _ _ (later (start s) items (item ∷ more) h)).0

pub polls_are_licensed : PollsAreLicensed
polls_are_licensed s items more list h = items_are_allowed s items more (Polled list) h

pub failed_polls_are_licensed : FailedPollsAreLicensed
failed_polls_are_licensed s items more h = items_are_allowed s items more (Failed PollCall) h
