-- What every event keeps true of a client and the server.
use Rattle.std.proofs.Common.{◌≡◌, ◌≢◌, ℕ, zero, ◌+◌, ◌<◌, ◌≤◌, nat_le, max, min, true, false, List, [], ◌∷◌, ◌++◌, Option, Some, None, Result, Ok, Err, take, drop, length, refl, sym, ap, subst, ◌∙◌, arith, inl, inr, if◌then◌else◌, slice_get, append_assoc, append-nil}
use Rattle.std.specs.List.{AllByRecursion}
use Rattle.std.proofs.lemmas.Bool.Decides.{nat_tests}
use Rattle.std.proofs.Math.Nat.{le-max_left, le-max_right}
use Rattle.std.proofs.lemmas.List.{append_cancel_left, length-append, length-take, take-append-le}
use Rattle.coord_types.specs.Table.{get}
use Rattle.coord_types.specs.declared.refusals.Refusal.{Refusal}
use Rattle.coord_types.specs.declared.steps.Command.{Command}
use Rattle.coord_types.specs.declared.steps.Kind.{Kind}
use Rattle.coord_types.specs.declared.steps.Reply.{Reply}
use Rattle.coord_types.specs.declared.steps.Session.{Session}
use Rattle.coord_types.specs.declared.steps.Step.{Step}
use Rattle.coord_world.specs.declared.verdicts.Verdict.{Verdict}
use Rattle.coord_world.specs.declared.verdicts.Verdict.TheVariants.{Fresh, Repeat}
use Rattle.coord_world.specs.Facade.{World, accepts, fold, last_number, reply}
use Rattle.coord_orders.specs.declared.book.Kept.{Kept}
use Rattle.coord_orders.specs.declared.book.Heard.{Heard}
use Rattle.coord_orders.specs.declared.book.Line.{Line}
use Rattle.coord_orders.specs.declared.book.OrderBook.{OrderBook}
use Rattle.coord_orders.specs.declared.meaning.Answer.TheVariants.{Replied, Refused}
use Rattle.coord_orders.specs.declared.meaning.Meaning.{Meaning}
use Rattle.coord_orders.specs.declared.meaning.Meaning.TheVariants.{Done, NotDone, SendAgain, CountLost}
use Rattle.coord_orders.specs.Meanings.{meaning_of, meaning_of_refusal}
use Rattle.coord_orders.specs.Book.{is_at, kept_after, line_of, line_with, opened, sending, with_order, written_over}
use Rattle.coord_orders.specs.Exchange.{Event, Exchange, Given, Owed, Sent, Write, Send, Lose, Arrive, TurnAway, Other, Settle, Release, Hear, Crash, Fall, answered, arrived, begun, happens, is_by, noted, noted_as, noted_if, order_by, order_of, orders_of, released, run, turned_away, with_answer, with_book, with_line, without}
use Rattle.coord_orders.specs.ExactlyOnce.{Counts, ExactlyOnce, IsInHand, IsOnce}
use Rattle.coord_orders.proofs.Lists.{IsRising, all_more, all_weaker, all_without, newest_alone, none_without, of_each, rising_le, rising_lower, rising_more, rising_without, squeezed, take_of_take}
use Rattle.coord_orders.proofs.Orders.{all_within, last_session, last-append, next_order, order_apart, order_own, orders-append, orders_cut, repeated, session_kept}

-- ---- what holds

abbrev pub trail_of : ℕ → World → Exchange → List Session
trail_of c base e = orders_of c base e.trail

abbrev pub settled_of : ℕ → World → Exchange → List Session
settled_of c base e = orders_of c base (take e.settled e.trail)

abbrev pub session_of : ℕ → Command → Reply → Session
session_of n x r = record { number = n; command = x; reply = r }

abbrev pub in_trail : Kept → Command → Reply → Session
in_trail kept x r = session_of (kept.last + 1) x r

-- no line is under way, and the order in hand is in the trail, with this reply
pub record IsCarried (c : ℕ) (base : World) (e : Exchange) (r : Reply) : Type 0 where
  pub none : e.under_way ≡ []
  pub order : Command
  pub in_hand : e.book.kept.in_hand ≡ Some order
  pub trail : trail_of c base e ≡ e.done ++ (in_trail e.book.kept order r ∷ [])

-- no line is under way, and the order in hand is not in the trail
pub record IsFree (c : ℕ) (base : World) (e : Exchange) : Type 0 where
  pub none : e.under_way ≡ []
  pub trail : trail_of c base e ≡ e.done
  pub settled : settled_of c base e ≡ trail_of c base e

-- what follows from an answer with this meaning, if it is the one that is awaited
abbrev pub IsReturned : ℕ → World → Exchange → ℕ → Meaning → Type 0
IsReturned c base e serial SendAgain = Unit {0}
IsReturned c base e serial CountLost = (serial < e.sent) × (e.book.awaited ≡ Some serial → ⊥)
IsReturned c base e serial NotDone = (serial < e.sent) × (e.book.awaited ≡ Some serial → IsFree c base e)
IsReturned c base e serial (Done r) = (serial < e.sent) × (e.book.awaited ≡ Some serial → IsCarried c base e r × (settled_of c base e ≡ trail_of c base e))

abbrev pub IsGiven : ℕ → World → Exchange → Given → Type 0
IsGiven c base e g = IsReturned c base e g.serial (meaning_of g.answer)

abbrev pub IsOwed : ℕ → World → Exchange → Owed → Type 0
IsOwed c base e o = (o.serial < e.sent) × (e.book.awaited ≡ Some o.serial → IsCarried c base e o.reply)

abbrev pub IsCurrent : Kept → Sent → Type 0
IsCurrent kept l = line_of kept ≡ Some l.line

pub record Holds (c : ℕ) (base : World) (first : ℕ) (e : Exchange) : Type 0 where
  pub more : List Session
  pub orders : trail_of c base e ≡ e.done ++ more
  pub in_hand : IsInHand e.book.kept more
  pub safe : List Session
  pub settled : settled_of c base e ≡ e.done ++ safe
  pub within : e.settled ≤ length e.trail
  pub numbers : Counts first e.book.kept.last e.done
  pub newest : (n : ℕ) → e.book.awaited ≡ Some n → n + 1 ≡ e.sent
  pub rising : IsRising zero e.under_way e.sent
  pub lines : AllByRecursion (IsCurrent e.book.kept) e.under_way
  pub owed : AllByRecursion (IsOwed c base e) e.owed
  pub answers : AllByRecursion (IsGiven c base e) e.answers

-- ---- facts that stay true

-- what stays, while an answer is awaited and no line is under way
pub record Stays (c : ℕ) (base : World) (e f : Exchange) : Type 0 where
  pub none : f.under_way ≡ []
  pub kept : f.book.kept ≡ e.book.kept
  pub done : f.done ≡ e.done
  pub trail : settled_of c base e ≡ trail_of c base e → trail_of c base f ≡ trail_of c base e
  pub settled : settled_of c base e ≡ trail_of c base e → settled_of c base f ≡ trail_of c base f

pub record GoesOn (c : ℕ) (base : World) (e f : Exchange) : Type 0 where
  pub sent : e.sent ≤ f.sent
  pub was : (n : ℕ) → n < e.sent → f.book.awaited ≡ Some n → e.book.awaited ≡ Some n
  pub stays : (n : ℕ) → n < e.sent → f.book.awaited ≡ Some n → e.under_way ≡ [] → Stays c base e f

carried_on : (c : ℕ) (base : World) (e f : Exchange) (r : Reply) → Stays c base e f → trail_of c base f ≡ trail_of c base e → IsCarried c base e r → IsCarried c base f r
carried_on c base e f r stays same is = record {
  none = stays.none;
  order = is.order;
  in_hand = ap (λ (k : Kept). k.in_hand) stays.kept ∙ is.in_hand;
  trail = same ∙ is.trail ∙ ap (λ d. d ++ (in_trail e.book.kept is.order r ∷ [])) (sym stays.done) ∙ ap (λ (k : Kept). f.done ++ (in_trail k is.order r ∷ [])) (sym stays.kept);
}

free_on : (c : ℕ) (base : World) (e f : Exchange) → Stays c base e f → IsFree c base e → IsFree c base f
free_on c base e f stays is = record { none = stays.none; trail = stays.trail is.settled ∙ is.trail ∙ sym stays.done; settled = stays.settled is.settled }

returned_on : (c : ℕ) (base : World) (e f : Exchange) → GoesOn c base e f → (serial : ℕ) (m : Meaning) → IsReturned c base e serial m → IsReturned c base f serial m
returned_on c base e f on serial SendAgain is = tt
returned_on c base e f on serial CountLost is = (let less = is.0 in let sent = on.sent in omega (arith, less, sent), λ a. is.1 (on.was serial is.0 a))
returned_on c base e f on serial NotDone is = (let less = is.0 in let sent = on.sent in omega (arith, less, sent), λ a. let free = is.1 (on.was serial is.0 a) in free_on c base e f (on.stays serial is.0 a free.none) free)
returned_on c base e f on serial (Done r) is = (
  let less = is.0 in let sent = on.sent in omega (arith, less, sent),
  λ a.
      let returned = is.1 (on.was serial is.0 a) in
      let stays = on.stays serial is.0 a returned.0.none in
      (carried_on c base e f r stays (stays.trail returned.1) returned.0, stays.settled returned.1),
)

given_on : (c : ℕ) (base : World) (e f : Exchange) → GoesOn c base e f → AllByRecursion (IsGiven c base e) e.answers → AllByRecursion (IsGiven c base f) e.answers
given_on c base e f on all = all_weaker (IsGiven c base e) (IsGiven c base f) e.answers (λ g is. returned_on c base e f on g.serial (meaning_of g.answer) is) all

-- if only the next lines of the client change its trail
owed_on : (c : ℕ) (base : World) (e f : Exchange) → GoesOn c base e f → (e.under_way ≡ [] → trail_of c base f ≡ trail_of c base e) → AllByRecursion (IsOwed c base e) e.owed → AllByRecursion (IsOwed c base f) e.owed
owed_on c base e f on same all = all_weaker (IsOwed c base e) (IsOwed c base f) e.owed
    (λ o is. (let less = is.0 in let sent = on.sent in omega (arith, less, sent), λ a. let carried = is.1 (on.was o.serial is.0 a) in carried_on c base e f o.reply (on.stays o.serial is.0 a carried.none) (same carried.none) carried)) all

-- no answer is awaited any more
unheard : (c : ℕ) (base : World) (e f : Exchange) → e.sent ≤ f.sent → f.book.awaited ≡ None → GoesOn c base e f
unheard c base e f sent none = record { sent = sent; was = λ n less a. absurd (cc); stays = λ n less a nobody. absurd (cc) }

-- the server has got a line, so none was answered while it was under way
busy : (c : ℕ) (base : World) (e f : Exchange) (l : Sent) (ls : List Sent) → e.under_way ≡ l ∷ ls → e.sent ≡ f.sent → f.book ≡ e.book → GoesOn c base e f
busy c base e f l ls one sent book = record { sent = omega (arith, sent); was = λ n less a. ap (λ (b : OrderBook). b.awaited) (sym book) ∙ a; stays = λ n less a nobody. absurd (cc) }

-- one more answer was given
one_more_given : (c : ℕ) (base : World) (first : ℕ) (e : Exchange) (g : Given) → IsGiven c base e g → Holds c base first e → Holds c base first (record e { answers = e.answers ++ (g ∷ []) })
one_more_given c base first e g is h =
    let f : Exchange = record e { answers = e.answers ++ (g ∷ []) } in
    let on : GoesOn c base e f = record {
      sent = omega arith;
      was = λ n less a. a;
      stays = λ n less a none. record { none = none; kept = refl; done = refl; trail = λ _. refl; settled = λ all. all };
    } in
    record {
      more = h.more;
      orders = h.orders;
      in_hand = h.in_hand;
      safe = h.safe;
      settled = h.settled;
      within = h.within;
      numbers = h.numbers;
      newest = h.newest;
      rising = h.rising;
      lines = h.lines;
      owed = owed_on c base e f on (λ _. refl) h.owed;
      answers = all_more (IsGiven c base f) e.answers g (given_on c base e f on h.answers) (returned_on c base e f on g.serial (meaning_of g.answer) is);
    }

-- ---- the order in hand

in_hand_first : (kept : Kept) (xs ys : List Session) → IsInHand kept (xs ++ ys) → IsInHand kept xs
in_hand_first kept [] ys h = tt
in_hand_first kept (x ∷ []) [] h = h
in_hand_first kept (x ∷ []) (y ∷ ys) h = absurd h
in_hand_first kept (x ∷ z ∷ zs) ys h = absurd h

nothing_more : (kept : Kept) (more : List Session) → kept.in_hand ≡ None → IsInHand kept more → more ≡ []
nothing_more kept [] none h = refl
nothing_more kept (s ∷ []) none h = let held = h.1 in absurd (cc)
nothing_more kept (s ∷ t ∷ ss) none h = absurd h

no_lines : (kept : Kept) (ls : List Sent) → kept.in_hand ≡ None → AllByRecursion (IsCurrent kept) ls → ls ≡ []
no_lines kept [] none all = refl
no_lines kept (l ∷ ls) none all = let is : line_with kept.last kept.in_hand ≡ Some l.line = all.0 in let none_is : line_with kept.last kept.in_hand ≡ None = ap (line_with kept.last) none in absurd (cc)

all_none : (P : Sent → Type 0) (ls : List Sent) → ls ≡ [] → AllByRecursion P ls
all_none P [] e = tt
all_none P (l ∷ ls) e = absurd (cc)

counts_more : (first last : ℕ) (ss : List Session) (s : Session) → s.number ≡ last + 1 → Counts first last ss → Counts first (last + 1) (ss ++ (s ∷ []))
counts_more first last [] s e is = (e ∙ ap (λ n. n + 1) is, sym e)
counts_more first last (x ∷ xs) s e is = (is.0, counts_more x.number last xs s e is.1)

-- ---- the client's events

wrote : (c : ℕ) (base : World) (first : ℕ) (e : Exchange) (x : Command) (o : Option Command) → e.book.kept.in_hand ≡ o → Holds c base first e → Holds c base first (with_book e (written_over o e.book.kept.last x))
wrote c base first e x (Some y) held h = h
wrote c base first e x None held h =
    let f : Exchange = record e { book = with_order e.book.kept.last x } in
    let on : GoesOn c base e f = unheard c base e f (omega arith) refl in
    let none = nothing_more e.book.kept h.more held h.in_hand in
    record {
      more = [];
      orders = h.orders ∙ ap (λ l. e.done ++ l) none;
      in_hand = tt;
      safe = h.safe;
      settled = h.settled;
      within = h.within;
      numbers = h.numbers;
      newest = λ n a. absurd (cc);
      rising = h.rising;
      lines = all_none (IsCurrent f.book.kept) e.under_way (no_lines e.book.kept e.under_way held h.lines);
      owed = owed_on c base e f on (λ _. refl) h.owed;
      answers = given_on c base e f on h.answers;
    }

sent_line : (c : ℕ) (base : World) (first : ℕ) (e : Exchange) (o : Option Line) → line_of e.book.kept ≡ o → Holds c base first e → Holds c base first (with_line e o)
sent_line c base first e None is h = h
sent_line c base first e (Some line) is h =
    let l : Sent = record { serial = e.sent; line = line } in
    let f : Exchange = record e { book = sending e.book e.sent; sent = e.sent + 1; under_way = e.under_way ++ (l ∷ []) } in
    let on : GoesOn c base e f = record { sent = omega arith; was = λ n less a. let same : e.sent ≡ n = cc in absurd (omega (arith, same, less)); stays = λ n less a none. let same : e.sent ≡ n = cc in absurd (omega (arith, same, less)) } in
    record {
      more = h.more;
      orders = h.orders;
      in_hand = h.in_hand;
      safe = h.safe;
      settled = h.settled;
      within = h.within;
      numbers = h.numbers;
      newest = λ n a. let same : e.sent ≡ n = cc in omega (arith, same);
      rising = rising_more zero e.sent e.under_way l refl h.rising;
      lines = all_more (IsCurrent e.book.kept) e.under_way l h.lines is;
      owed = owed_on c base e f on (λ _. refl) h.owed;
      answers = given_on c base e f on h.answers;
    }

-- a client that crashed
crashed : (c : ℕ) (base : World) (first : ℕ) (e : Exchange) → Holds c base first e → Holds c base first (record e { book = opened e.book.kept })
crashed c base first e h =
    let f : Exchange = record e { book = opened e.book.kept } in
    let on : GoesOn c base e f = unheard c base e f (omega arith) refl in
    record {
      more = h.more;
      orders = h.orders;
      in_hand = h.in_hand;
      safe = h.safe;
      settled = h.settled;
      within = h.within;
      numbers = h.numbers;
      newest = λ n a. absurd (cc);
      rising = h.rising;
      lines = h.lines;
      owed = owed_on c base e f on (λ _. refl) h.owed;
      answers = given_on c base e f on h.answers;
    }

-- an answer that is heard
heard_as : (c : ℕ) (base : World) (first : ℕ) (e : Exchange) (m : Meaning) (serial : ℕ) → e.book.awaited ≡ Some serial → IsReturned c base e serial m → Holds c base first e →
    Holds c base first (record e { book = opened (kept_after e.book.kept m); done = e.done ++ noted e.book.kept m })
heard_as c base first e (Done r) serial awaited returned h =
    let is : IsCarried c base e r = (returned.1 awaited).0 in
    let whole : settled_of c base e ≡ trail_of c base e = (returned.1 awaited).1 in
    let s : Session = in_trail e.book.kept is.order r in
    let noted_is : noted e.book.kept (Done r) ≡ s ∷ [] = ap (λ o. noted_as e.book.kept.last o r) is.in_hand in
    let done_is : e.done ++ noted e.book.kept (Done r) ≡ e.done ++ (s ∷ []) = ap (λ l. e.done ++ l) noted_is in
    let f : Exchange = record e { book = opened (record { last = e.book.kept.last + 1; in_hand = None }); done = e.done ++ noted e.book.kept (Done r) } in
    let on : GoesOn c base e f = unheard c base e f (omega arith) refl in
    record {
      more = [];
      orders = is.trail ∙ sym done_is ∙ sym (append-nil (e.done ++ noted e.book.kept (Done r)));
      in_hand = tt;
      safe = [];
      settled = whole ∙ is.trail ∙ sym done_is ∙ sym (append-nil (e.done ++ noted e.book.kept (Done r)));
      within = h.within;
      numbers = subst (Counts first (e.book.kept.last + 1)) (sym done_is) (counts_more first e.book.kept.last e.done s refl h.numbers);
      newest = λ n a. absurd (cc);
      rising = h.rising;
      lines = all_none (IsCurrent f.book.kept) e.under_way is.none;
      owed = owed_on c base e f on (λ _. refl) h.owed;
      answers = given_on c base e f on h.answers;
    }
heard_as c base first e NotDone serial awaited returned h =
    let is : IsFree c base e = returned.1 awaited in
    let f : Exchange = record e { book = opened (record { last = e.book.kept.last; in_hand = None }); done = e.done ++ [] } in
    let on : GoesOn c base e f = unheard c base e f (omega arith) refl in
    let same = append-nil e.done in
    record {
      more = [];
      orders = is.trail ∙ sym same ∙ sym (append-nil (e.done ++ []));
      in_hand = tt;
      safe = h.safe;
      settled = h.settled ∙ ap (λ d. d ++ h.safe) (sym same);
      within = h.within;
      numbers = subst (Counts first e.book.kept.last) (sym same) h.numbers;
      newest = λ n a. absurd (cc);
      rising = h.rising;
      lines = all_none (IsCurrent f.book.kept) e.under_way is.none;
      owed = owed_on c base e f on (λ _. refl) h.owed;
      answers = given_on c base e f on h.answers;
    }
heard_as c base first e SendAgain serial awaited returned h = subst (λ d. Holds c base first (record e { book = opened e.book.kept; done = d })) (sym (append-nil e.done)) (crashed c base first e h)
heard_as c base first e CountLost serial awaited returned h = absurd (returned.1 awaited)

awaits : (serial : ℕ) (o : Option ℕ) → is_at serial o ≡ true → o ≡ Some serial
awaits serial None e = absurd (cc)
awaits serial (Some n) e = let same : n ≡ serial = grind (arith, nat_tests, e) in ap Some same

heard_one : (c : ℕ) (base : World) (first : ℕ) (e : Exchange) (k : ℕ) (o : Option Given) → slice_get e.answers k ≡ o → Holds c base first e → Holds c base first (with_answer e o)
heard_one c base first e k None is h = h
heard_one c base first e k (Some g) is h =
    let m : Meaning = meaning_of g.answer in
    elim (is_at g.serial e.book.awaited) as (λ b. is_at g.serial e.book.awaited ≡ b →
    Holds c base first (let after : Heard = if b then record { book = opened (kept_after e.book.kept m); meaning = Some m } else record { book = e.book; meaning = None } in record e { book = after.book; done = e.done ++ noted_if e.book.kept after.meaning })) [
      | true ↦ λ yes. heard_as c base first e m g.serial (awaits g.serial e.book.awaited yes) (of_each (IsGiven c base e) e.answers k g is h.answers) h
      | false ↦ λ differs. subst (λ d. Holds c base first (record e { done = d })) (sym (append-nil e.done)) h
    ] refl

-- ---- the lines under way

lost : (c : ℕ) (base : World) (first : ℕ) (e : Exchange) (k : ℕ) → Holds c base first e → Holds c base first (record e { under_way = without k e.under_way })
lost c base first e k h =
    let f : Exchange = record e { under_way = without k e.under_way } in
    let on : GoesOn c base e f = record {
      sent = omega arith;
      was = λ n less a. a;
      stays = λ n less a none. record { none = none_without k e.under_way none; kept = refl; done = refl; trail = λ _. refl; settled = λ all. all };
    } in
    record {
      more = h.more;
      orders = h.orders;
      in_hand = h.in_hand;
      safe = h.safe;
      settled = h.settled;
      within = h.within;
      numbers = h.numbers;
      newest = h.newest;
      rising = rising_without k zero e.sent e.under_way h.rising;
      lines = all_without (IsCurrent e.book.kept) k e.under_way h.lines;
      owed = owed_on c base e f on (λ _. refl) h.owed;
      answers = given_on c base e f on h.answers;
    }

-- the steps beside it stay settled
same_settled : (c : ℕ) (base : World) (e : Exchange) (s : Step) → e.settled ≤ length e.trail → orders_of c base (take e.settled (e.trail ++ (s ∷ []))) ≡ settled_of c base e
same_settled c base e s within = ap (orders_of c base) (take-append-le e.settled e.trail (s ∷ []) within)

longer : (e : Exchange) (s : Step) → e.settled ≤ length e.trail → e.settled ≤ length (e.trail ++ (s ∷ []))
longer e s within = let size = length-append e.trail (s ∷ []) in omega (arith, size, within)

-- the last number that the server knows of
last_known : (c : ℕ) (base : World) (e : Exchange) (more : List Session) → trail_of c base e ≡ e.done ++ more → get (fold base e.trail).sessions c ≡ last_session (last_session (get base.sessions c) e.done) more
last_known c base e more orders = session_kept c e.trail base ∙ ap (last_session (get base.sessions c)) orders ∙ last-append (get base.sessions c) e.done more

last_counted : (o : Option Session) (first last : ℕ) (ss : List Session) → last_number o ≡ first → Counts first last ss → last_number (last_session o ss) ≡ last
last_counted o first last [] e is = e ∙ sym is
last_counted o first last (s ∷ ss) e is = last_counted (Some s) s.number last ss refl is.1

-- what the oldest line's coming changes, whatever the server says
record Oldest (c : ℕ) (base : World) (first : ℕ) (e : Exchange) (l : Sent) (ls : List Sent) : Type 0 where
  pub one : e.under_way ≡ l ∷ ls
  pub less : l.serial < e.sent
  pub alone : e.book.awaited ≡ Some l.serial → ls ≡ []
  pub rising : IsRising zero ls e.sent
  pub lines : AllByRecursion (IsCurrent e.book.kept) ls
  pub number : l.line.number ≡ e.book.kept.last + 1
  pub in_hand : e.book.kept.in_hand ≡ Some l.line.command

line_is : (last : ℕ) (o : Option Command) (line : Line) → line_with last o ≡ Some line → (line.number ≡ last + 1) × (o ≡ Some line.command)
line_is last None line e = absurd (cc)
line_is last (Some x) line e =
    let same : line ≡ record { number = last + 1; command = x } = cc in
    (ap (λ (m : Line). m.number) same, ap (λ (m : Line). Some m.command) (sym same))

oldest : (c : ℕ) (base : World) (first : ℕ) (e : Exchange) (l : Sent) (ls : List Sent) → e.under_way ≡ l ∷ ls → Holds c base first e → Oldest c base first e l ls
oldest c base first e l ls one h =
    let rising : IsRising zero (l ∷ ls) e.sent = subst (λ z. IsRising zero z e.sent) one h.rising in
    let lines : AllByRecursion (IsCurrent e.book.kept) (l ∷ ls) = subst (AllByRecursion (IsCurrent e.book.kept)) one h.lines in
    let above = rising_le (l.serial + 1) e.sent ls rising.1 in
    let is = line_is e.book.kept.last e.book.kept.in_hand l.line lines.0 in
    record {
      one = one;
      less = omega (arith, above);
      alone = λ a. newest_alone l ls e.sent (h.newest l.serial a) rising.1;
      rising = rising_lower zero (l.serial + 1) e.sent ls (omega arith) rising.1;
      lines = lines.1;
      number = is.0;
      in_hand = is.1;
    }

session_is : (n last : ℕ) (x : Command) (r : Reply) → n ≡ last + 1 → session_of n x r ≡ session_of (last + 1) x r
session_is n last x r e = ap (λ z. session_of z x r) e

came_fresh : (c : ℕ) (base : World) (first : ℕ) (e : Exchange) (l : Sent) (ls : List Sent) (kind : Kind) → trail_of c base e ≡ e.done ++ [] → Oldest c base first e l ls → Holds c base first e →
    Holds c base first (answered c (fold base e.trail) l (record e { under_way = ls }) (Ok (Fresh kind)))
came_fresh c base first e l ls kind free at h =
    let w : World = fold base e.trail in
    let s : Step = order_by c l.line in
    let r : Reply = reply w s in
    let o : Session = in_trail e.book.kept l.line.command r in
    let f : Exchange = record e { under_way = ls; trail = e.trail ++ (s ∷ []); owed = e.owed ++ (record { serial = l.serial; reply = r } ∷ []) } in
    let on : GoesOn c base e f = busy c base e f l ls at.one refl refl in
    let own : orders_of c w (s ∷ []) ≡ o ∷ [] = append-nil (order_of c w s) ∙ order_own c l.line.number l.line.command w ∙ ap (λ z. z ∷ []) (session_is l.line.number e.book.kept.last l.line.command r at.number) in
    let trail : trail_of c base f ≡ e.done ++ (o ∷ []) = orders-append c base e.trail (s ∷ []) ∙ ap (λ z. z ++ orders_of c w (s ∷ [])) (free ∙ append-nil e.done) ∙ ap (λ z. e.done ++ z) own in
    let nothing : e.under_way ≡ [] → trail_of c base f ≡ trail_of c base e = λ none. let one = at.one in absurd (cc) in
    record {
      more = o ∷ [];
      orders = trail;
      in_hand = (refl, at.in_hand);
      safe = h.safe;
      settled = same_settled c base e s h.within ∙ h.settled;
      within = longer e s h.within;
      numbers = h.numbers;
      newest = h.newest;
      rising = at.rising;
      lines = at.lines;
      owed = all_more (IsOwed c base f) e.owed (record { serial = l.serial; reply = r }) (owed_on c base e f on nothing h.owed)
          (at.less, λ a. record { none = at.alone a; order = l.line.command; in_hand = at.in_hand; trail = trail });
      answers = given_on c base e f on h.answers;
    }

came_again : (c : ℕ) (base : World) (first : ℕ) (e : Exchange) (l : Sent) (ls : List Sent) (r : Reply) → trail_of c base e ≡ e.done ++ (in_trail e.book.kept l.line.command r ∷ []) → Oldest c base first e l ls → Holds c base first e →
    Holds c base first (answered c (fold base e.trail) l (record e { under_way = ls }) (Ok (Repeat r)))
came_again c base first e l ls r trail at h =
    let f : Exchange = record e { under_way = ls; owed = e.owed ++ (record { serial = l.serial; reply = r } ∷ []) } in
    let on : GoesOn c base e f = busy c base e f l ls at.one refl refl in
    record {
      more = h.more;
      orders = h.orders;
      in_hand = h.in_hand;
      safe = h.safe;
      settled = h.settled;
      within = h.within;
      numbers = h.numbers;
      newest = h.newest;
      rising = at.rising;
      lines = at.lines;
      owed = all_more (IsOwed c base f) e.owed (record { serial = l.serial; reply = r }) (owed_on c base e f on (λ _. refl) h.owed)
          (at.less, λ a. record { none = at.alone a; order = l.line.command; in_hand = at.in_hand; trail = trail });
      answers = given_on c base e f on h.answers;
    }

came_refused : (c : ℕ) (base : World) (first : ℕ) (e : Exchange) (l : Sent) (ls : List Sent) (refusal : Refusal) → meaning_of_refusal refusal ≡ NotDone → trail_of c base e ≡ e.done ++ [] → Oldest c base first e l ls → Holds c base first e →
    Holds c base first (answered c (fold base e.trail) l (record e { under_way = ls }) (Err refusal))
came_refused c base first e l ls refusal means free at h =
    let g : Given = record { serial = l.serial; answer = Refused refusal } in
    let f : Exchange = record e { under_way = ls; answers = e.answers ++ (g ∷ []) } in
    let on : GoesOn c base e f = busy c base e f l ls at.one refl refl in
    let trail : trail_of c base e ≡ e.done = free ∙ append-nil e.done in
    let all : settled_of c base e ≡ trail_of c base e = squeezed (trail_of c base e) (settled_of c base e) h.safe (orders_of c (fold base (take e.settled e.trail)) (drop e.settled e.trail))
    (h.settled ∙ ap (λ z. z ++ h.safe) (sym trail)) (orders_cut c base e.settled e.trail) in
    let returned : IsReturned c base f l.serial NotDone = (at.less, λ a. record { none = at.alone a; trail = trail; settled = all }) in
    record {
      more = h.more;
      orders = h.orders;
      in_hand = h.in_hand;
      safe = h.safe;
      settled = h.settled;
      within = h.within;
      numbers = h.numbers;
      newest = h.newest;
      rising = at.rising;
      lines = at.lines;
      owed = owed_on c base e f on (λ _. refl) h.owed;
      answers = all_more (IsGiven c base f) e.answers g (given_on c base e f on h.answers) (subst (IsReturned c base f l.serial) (sym means) returned);
    }

came : (c : ℕ) (base : World) (first : ℕ) (e : Exchange) (l : Sent) (ls : List Sent) (more : List Session) → last_number (get base.sessions c) ≡ first → trail_of c base e ≡ e.done ++ more → IsInHand e.book.kept more → Oldest c base first e l ls → Holds c base first e →
    Holds c base first (answered c (fold base e.trail) l (record e { under_way = ls }) (accepts (fold base e.trail) (fold base e.trail) (order_by c l.line)))
came c base first e l ls [] from orders in_hand at h =
    let w : World = fold base e.trail in
    let known : last_number (get w.sessions c) ≡ e.book.kept.last = ap last_number (last_known c base e [] orders) ∙ last_counted (get base.sessions c) first e.book.kept.last e.done from h.numbers in
    let is_next : l.line.number ≡ last_number (get w.sessions c) + 1 = at.number ∙ ap (λ n. n + 1) (sym known) in
    let said = next_order w c l.line.number l.line.command is_next in
    let P : Result Verdict Refusal → Type 0 = λ v. Holds c base first (answered c w l (record e { under_way = ls }) v) in
    elim said.1 [
      | inl fresh ↦ subst P (sym fresh) (came_fresh c base first e l ls said.0 orders at h)
      | inr refused ↦ subst P (sym refused.1.0) (came_refused c base first e l ls refused.0 refused.1.1 orders at h)
    ]
came c base first e l ls (s ∷ []) from orders in_hand at h =
    let w : World = fold base e.trail in
    let number : s.number ≡ l.line.number = in_hand.0 ∙ sym at.number in
    let some : Some s.command ≡ Some l.line.command = sym in_hand.1 ∙ at.in_hand in
    let command : s.command ≡ l.line.command = cc in
    let again = repeated w c s (last_known c base e (s ∷ []) orders) in
    let step : order_by c (record { number = s.number; command = s.command }) ≡ order_by c l.line = ap (λ n. order_by c (record { number = n; command = s.command })) number ∙ ap (λ x. order_by c (record { number = l.line.number; command = x })) command in
    let is : s ≡ in_trail e.book.kept l.line.command s.reply = ap (λ n. session_of n s.command s.reply) in_hand.0 ∙ ap (λ x. session_of (e.book.kept.last + 1) x s.reply) command in
    let P : Result Verdict Refusal → Type 0 = λ v. Holds c base first (answered c w l (record e { under_way = ls }) v) in
    subst P (sym (ap (accepts w w) (sym step) ∙ again)) (came_again c base first e l ls s.reply (orders ∙ ap (λ o. e.done ++ (o ∷ [])) is) at h)
came c base first e l ls (s ∷ t ∷ ss) from orders in_hand at h = absurd in_hand

arrives : (c : ℕ) (base : World) (first : ℕ) (e : Exchange) (ls : List Sent) → last_number (get base.sessions c) ≡ first → e.under_way ≡ ls → Holds c base first e → Holds c base first (arrived c (fold base e.trail) e ls)
arrives c base first e [] from is h = h
arrives c base first e (l ∷ ls) from is h = came c base first e l ls h.more from h.orders h.in_hand (oldest c base first e l ls is h) h

turns_away : (c : ℕ) (base : World) (first : ℕ) (e : Exchange) (serial : ℕ) (refusal : Refusal) (m : Meaning) → meaning_of_refusal refusal ≡ m → Holds c base first e → Holds c base first (turned_away e serial refusal m)
turns_away c base first e serial refusal (Done r) means h = h
turns_away c base first e serial refusal NotDone means h = h
turns_away c base first e serial refusal CountLost means h = h
turns_away c base first e serial refusal SendAgain means h = one_more_given c base first e (record { serial = serial; answer = Refused refusal }) (subst (IsReturned c base e serial) (sym means) tt) h

-- ---- the server's other events

other : (c : ℕ) (base : World) (first : ℕ) (e : Exchange) (s : Step) → is_by c s ≡ false → Holds c base first e → Holds c base first (record e { trail = e.trail ++ (s ∷ []) })
other c base first e s not_by h =
    let w : World = fold base e.trail in
    let f : Exchange = record e { trail = e.trail ++ (s ∷ []) } in
    let same : trail_of c base f ≡ trail_of c base e = orders-append c base e.trail (s ∷ []) ∙ ap (λ z. trail_of c base e ++ z) (append-nil (order_of c w s) ∙ order_apart c w s not_by) ∙ append-nil (trail_of c base e) in
    let settled = same_settled c base e s h.within in
    let on : GoesOn c base e f = record {
      sent = omega arith;
      was = λ n less a. a;
      stays = λ n less a none. record { none = none; kept = refl; done = refl; trail = λ _. same; settled = λ all. settled ∙ all ∙ sym same };
    } in
    record {
      more = h.more;
      orders = same ∙ h.orders;
      in_hand = h.in_hand;
      safe = h.safe;
      settled = settled ∙ h.settled;
      within = longer e s h.within;
      numbers = h.numbers;
      newest = h.newest;
      rising = h.rising;
      lines = h.lines;
      owed = owed_on c base e f on (λ _. same) h.owed;
      answers = given_on c base e f on h.answers;
    }

other_step : (c : ℕ) (base : World) (first : ℕ) (e : Exchange) (s : Step) → Holds c base first e → Holds c base first (if is_by c s then e else record e { trail = e.trail ++ (s ∷ []) })
other_step c base first e s h = elim (is_by c s) as (λ b. is_by c s ≡ b → Holds c base first (if b then e else record e { trail = e.trail ++ (s ∷ []) })) [ true ↦ λ yes. h | false ↦ λ differs. other c base first e s differs h ] refl

-- more steps are settled
after_settled : ℕ → World → Exchange → ℕ → List Session
after_settled c base e n = orders_of c (fold base (take e.settled (take n e.trail))) (drop e.settled (take n e.trail))

from_settled : (c : ℕ) (base : World) (e : Exchange) (n : ℕ) → e.settled ≤ n → orders_of c base (take n e.trail) ≡ settled_of c base e ++ after_settled c base e n
unfolding after_settled
from_settled c base e n le = orders_cut c base e.settled (take n e.trail) ∙ ap (λ ss. orders_of c base ss ++ after_settled c base e n) (take_of_take e.settled n e.trail le)

-- what lies between the settled steps and the trail
between : (c : ℕ) (base : World) (e : Exchange) (n : ℕ) → e.settled ≤ n → settled_of c base e ≡ trail_of c base e → orders_of c base (take n e.trail) ≡ trail_of c base e
between c base e n le all = squeezed (trail_of c base e) (orders_of c base (take n e.trail)) (after_settled c base e n) (orders_of c (fold base (take n e.trail)) (drop n e.trail))
    (from_settled c base e n le ∙ ap (λ z. z ++ after_settled c base e n) all) (orders_cut c base n e.trail)

settles : (c : ℕ) (base : World) (first : ℕ) (e : Exchange) (n : ℕ) → e.settled ≤ n → n ≤ length e.trail → Holds c base first e → Holds c base first (record e { settled = n })
settles c base first e n le within h =
    let f : Exchange = record e { settled = n } in
    let on : GoesOn c base e f = record {
      sent = omega arith;
      was = λ i less a. a;
      stays = λ i less a none. record { none = none; kept = refl; done = refl; trail = λ _. refl; settled = λ all. between c base e n le all };
    } in
    record {
      more = h.more;
      orders = h.orders;
      in_hand = h.in_hand;
      safe = h.safe ++ after_settled c base e n;
      settled = from_settled c base e n le ∙ ap (λ z. z ++ after_settled c base e n) h.settled ∙ append_assoc e.done h.safe (after_settled c base e n);
      within = within;
      numbers = h.numbers;
      newest = h.newest;
      rising = h.rising;
      lines = h.lines;
      owed = owed_on c base e f on (λ _. refl) h.owed;
      answers = given_on c base e f on h.answers;
    }

releases : (c : ℕ) (base : World) (first : ℕ) (e : Exchange) (k : ℕ) (o : Option Owed) → slice_get e.owed k ≡ o → Holds c base first e → Holds c base first (released base e o)
releases c base first e k None is h = h
releases c base first e k (Some o) is h =
    let g : Given = record { serial = o.serial; answer = Replied o.reply } in
    let owed : IsOwed c base e o = of_each (IsOwed c base e) e.owed k o is h.owed in
    elim (nat_le o.reply.step (base.count + e.settled)) as (λ b. nat_le o.reply.step (base.count + e.settled) ≡ b → Holds c base first (if b then record e { answers = e.answers ++ (g ∷ []) } else e)) [
      | true ↦ λ yes.
          let le : o.reply.step ≤ base.count + e.settled = grind (arith, nat_tests, yes) in
          let returned : IsGiven c base e g = (owed.0, λ a. let carried = owed.1 a in (carried, all_within c base e.trail e.settled e.done (in_trail e.book.kept carried.order o.reply) carried.trail le h.within)) in
          one_more_given c base first e g returned h
      | false ↦ λ differs. h
    ] refl

falls : (c : ℕ) (base : World) (first : ℕ) (e : Exchange) (n : ℕ) → e.settled ≤ n → Holds c base first e → Holds c base first (record e { trail = take n e.trail; owed = [] })
falls c base first e n le h =
    let f : Exchange = record e { trail = take n e.trail; owed = [] } in
    let following : List Session = orders_of c (fold base (take n e.trail)) (drop n e.trail) in
    let kept : trail_of c base f ≡ e.done ++ (h.safe ++ after_settled c base e n) = from_settled c base e n le ∙ ap (λ z. z ++ after_settled c base e n) h.settled ∙ append_assoc e.done h.safe (after_settled c base e n) in
    let whole : e.done ++ h.more ≡ e.done ++ ((h.safe ++ after_settled c base e n) ++ following) =
    sym h.orders ∙ orders_cut c base n e.trail ∙ ap (λ z. z ++ following) kept ∙ append_assoc e.done (h.safe ++ after_settled c base e n) following in
    let parts : h.more ≡ (h.safe ++ after_settled c base e n) ++ following = append_cancel_left e.done h.more ((h.safe ++ after_settled c base e n) ++ following) whole in
    let settled : settled_of c base f ≡ settled_of c base e = ap (orders_of c base) (take_of_take e.settled n e.trail le) in
    let on : GoesOn c base e f = record {
      sent = omega arith;
      was = λ i less a. a;
      stays = λ i less a none. record { none = none; kept = refl; done = refl; trail = λ all. between c base e n le all; settled = λ all. settled ∙ all ∙ sym (between c base e n le all) };
    } in
    record {
      more = h.safe ++ after_settled c base e n;
      orders = kept;
      in_hand = in_hand_first e.book.kept (h.safe ++ after_settled c base e n) following (subst (IsInHand e.book.kept) parts h.in_hand);
      safe = h.safe;
      settled = settled ∙ h.settled;
      within = let size = length-take n e.trail in let short = h.within in omega (arith, size, short, le);
      numbers = h.numbers;
      newest = h.newest;
      rising = h.rising;
      lines = h.lines;
      owed = tt;
      answers = given_on c base e f on h.answers;
    }

-- ---- every event

holds : (c : ℕ) (base : World) (first : ℕ) (e : Exchange) (event : Event) → last_number (get base.sessions c) ≡ first → Holds c base first e → Holds c base first (happens c base e event)
holds c base first e (Write x) from h = wrote c base first e x e.book.kept.in_hand refl h
holds c base first e Send from h = sent_line c base first e (line_of e.book.kept) refl h
holds c base first e (Lose k) from h = lost c base first e k h
holds c base first e Arrive from h = arrives c base first e e.under_way from refl h
holds c base first e (TurnAway serial refusal) from h = turns_away c base first e serial refusal (meaning_of_refusal refusal) refl h
holds c base first e (Other s) from h = other_step c base first e s h
holds c base first e (Settle n) from h = let within = h.within in settles c base first e (max e.settled (min n (length e.trail))) (le-max_left e.settled (min n (length e.trail))) (omega (arith, within)) h
holds c base first e (Release k) from h = releases c base first e k (slice_get e.owed k) refl h
holds c base first e (Hear k) from h = heard_one c base first e k (slice_get e.answers k) refl h
holds c base first e Crash from h = crashed c base first e h
holds c base first e (Fall n) from h = falls c base first e (max n e.settled) (le-max_right n e.settled) h

holds_on : (c : ℕ) (base : World) (first : ℕ) (events : List Event) (e : Exchange) → last_number (get base.sessions c) ≡ first → Holds c base first e → Holds c base first (run c base e events)
holds_on c base first [] e from h = h
holds_on c base first (event ∷ events) e from h = holds_on c base first events (happens c base e event) from (holds c base first e event from h)

at_first : (c : ℕ) (base : World) (first : ℕ) → Holds c base first (begun first)
at_first c base first = record {
  more = [];
  orders = refl;
  in_hand = tt;
  safe = [];
  settled = refl;
  within = omega arith;
  numbers = refl;
  newest = λ n a. absurd (cc);
  rising = omega arith;
  lines = tt;
  owed = tt;
  answers = tt;
}

no_lost_count : (c : ℕ) (base : World) (e : Exchange) (g : Given) → IsGiven c base e g → e.book.awaited ≡ Some g.serial → meaning_of g.answer ≢ CountLost
no_lost_count c base e g is awaited lost_count = let returned : IsReturned c base e g.serial CountLost = subst (IsReturned c base e g.serial) lost_count is in returned.1 awaited

once : (c : ℕ) (base : World) (first : ℕ) (e : Exchange) → Holds c base first e → IsOnce c base first e
once c base first e h = record {
  orders = (h.more, (h.orders, h.in_hand));
  settled = (h.safe, h.settled);
  numbers = h.numbers;
  counted = λ k g is awaited. no_lost_count c base e g (of_each (IsGiven c base e) e.answers k g is h.answers) awaited;
}

pub exactly_once : ExactlyOnce
exactly_once c base events =
    let first : ℕ = last_number (get base.sessions c) in
    once c base first (run c base (begun first) events) (holds_on c base first events (begun first) refl (at_first c base first))
