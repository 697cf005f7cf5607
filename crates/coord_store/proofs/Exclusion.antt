-- Bytes give one world at most, and bytes that give one are refused for no reason of theirs.
use Rattle.std.proofs.Common.{◌≡◌, ℕ, ◌+◌, List, [], ◌∷◌, ◌++◌, sym, ap, ◌∙◌, Some, IsNone, refl, inl, inr, subst, ◌⊎◌, ⊎_elim}
use Rattle.coord_types.specs.declared.steps.Step.{Step}
use Rattle.coord_batch.specs.Facade.{batch, pair}
use Rattle.coord_batch.proofs.SpellingLaws.{batches_prefix_free}
use Rattle.coord_codec.specs.Worlds.{world}
use Rattle.coord_codec.proofs.WorldGrammars.{worlds_prefix_free}
use Rattle.coord_journal.specs.Text.{Content}
use Rattle.coord_journal.proofs.Texts.{text_same, text_header, after_header}
use Rattle.coord_world.specs.Facade.{World, fold, rows_of, InRange, Legal}
use Rattle.coord_store.specs.Laws.{RecoveredIsOne, RecoveredIsOpened}
use Rattle.coord_store.specs.Recovered.{Gives, HasSnapshot, IsBody, Replays}
use Rattle.coord_check.specs.Faults.{faults, first}
use Rattle.coord_check.specs.declared.violation.Violation.{Violation}
use Rattle.coord_check.proofs.LegalWithoutFaults.{clear_or_not}
use Rattle.coord_journal.specs.Facade.{BeginsWithHeader, IsText, RefusesOpen as JournalRefuses}
use Rattle.coord_journal.specs.declared.fault.JournalFault.{JournalFault}
use Rattle.coord_store.specs.Facade.{AllFresh, IsPassing, Recovered, RefusesBatch, RefusesBatches, RefusesContent, RefusesReplay, RefusesSnapshot, RefusesText, StopsAt, Takes, store_fault_of, RefusesCreate, RefusesOpen}
use Rattle.coord_store.specs.declared.faults.StoreFault.{StoreFault}
use Rattle.coord_store.proofs.Freshness.{fresh_at, reached}
use Rattle.coord_store.specs.declared.faults.StoreFault.TheVariants.{OutOfMemory}
use Rattle.coord_journal.specs.declared.fault.JournalFault.TheVariants as journal

-- ---- one world

-- a body spells one list of steps
pub one_spelling : (w : World) (body : List ℕ) (ss ts : List Step) → IsBody w body ss → IsBody w body ts → ss ≡ ts
one_spelling w body ss ts here there =
    let e : (batch w.version).text (pair (w.count + 1) ss) ++ [] ≡ (batch w.version).text (pair (w.count + 1) ts) ++ [] = ap (λ l. l ++ []) (sym here.spelled ∙ there.spelled) in
    ap (λ p. p.1) (batches_prefix_free w.version (w.count + 1) (w.count + 1) ss ts [] [] here.numbered there.numbered e).0

-- a snapshot spells one world
pub one_start : (content : Content) (v w : World) → HasSnapshot content v → HasSnapshot content w → v ≡ w
one_start content v w here there =
    let same : v.version ≡ w.version = sym here.known ∙ there.known in
    let e : (world v.version).text (rows_of v) ++ [] ≡ (world v.version).text (rows_of w) ++ [] = ap (λ l. l ++ []) (sym here.spelled ∙ there.spelled ∙ ap (λ n. (world n).text (rows_of w)) (sym same)) in
    (worlds_prefix_free v w [] [] here.in_range there.in_range same e).0

-- batches lead to one world
pub one_end : (bodies : List (List ℕ)) (w u v : World) → Replays w bodies u → Replays w bodies v → u ≡ v
one_end [] w u v here there = sym here ∙ there
one_end (body ∷ bodies) w u v here there =
    let same = one_spelling w body here.0 there.0 here.1.spells there.1.spells in
    one_end bodies (fold w there.0) u v (rw (sym same) here.2) there.2

-- a content gives one world
pub one_given : (content : Content) (v w : World) → Gives content v → Gives content w → v ≡ w
one_given content v w here there =
    let start = one_start content here.start there.start here.snapshot there.snapshot in
    one_end content.batches there.start v w (rw (sym start) here.replays) there.replays

pub recovered_is_one : RecoveredIsOne
recovered_is_one bytes v w here there =
    let same : here.content ≡ there.content = text_same bytes here.content there.content here.text there.text in
    one_given there.content v w (rw (sym same) here.gives) there.gives

-- ---- no refusal

-- a legal world has no fault
legal_unfaulted : (w : World) (v : Violation) → InRange w → Legal w → first (faults w) ≡ Some v → ⊥
legal_unfaulted w v range legal is = let none : IsNone (first (faults w)) = (clear_or_not w range (first (faults w)) refl).1 legal in cc

-- fresh steps are not stopped at
pub unstopped : (w : World) (steps : List Step) (index : ℕ) → StopsAt w steps index → AllFresh w w steps → ⊥
unstopped w steps index stop all = stop.stops (fresh_at stop.front stop.rest w w stop.refused (subst (AllFresh w w) stop.split all))

-- a batch that is taken is not refused
taken_unrefused : (w : World) (n : ℕ) (body : List ℕ) (steps : List Step) (fault : StoreFault) → Takes w body steps → RefusesBatch w n body fault → ⊥
taken_unrefused w n body steps fault takes (inl spells_none) = spells_none.1 steps takes.spells
taken_unrefused w n body steps fault takes (inr stop) =
    unstopped w stop.1 stop.0 stop.4 (subst (AllFresh w w) (one_spelling w body steps stop.1 takes.spells stop.3) takes.fresh)

-- batches that lead to a world are not refused
led_unrefused : (start w : World) (bodies : List (List ℕ)) (fault : StoreFault) → Replays start bodies w → RefusesReplay start bodies fault → ⊥
led_unrefused start w bodies fault led refused =
    let here = refused.reaches in
    let there = reached here.front here.rest refused.body start w (rw (sym here.split) led) in
    let same = one_end here.front start refused.reached there.0 here.replays there.1 in
    taken_unrefused there.0 refused.number refused.body there.2.0 fault there.2.1 (rw (sym same) refused.refuses)

batches_unrefused : (content : Content) (w : World) (fault : StoreFault) → Gives content w → RefusesBatches content fault → ⊥
batches_unrefused content w fault gives refused =
    led_unrefused gives.start w content.batches fault gives.replays (rw (sym (one_start content refused.0 gives.start refused.1 gives.snapshot)) refused.3)

-- a snapshot that spells a legal world is not refused
snapshot_unrefused : (content : Content) (start : World) (fault : StoreFault) → HasSnapshot content start → Legal start → RefusesSnapshot content fault → ⊥
snapshot_unrefused content start fault snapshot legal (inl spells_none) = spells_none.1 start snapshot
snapshot_unrefused content start fault snapshot legal (inr violated) =
    legal_unfaulted violated.0 violated.1 violated.3.in_range (subst Legal (one_start content start violated.0 snapshot violated.3) legal) violated.4

-- a content that gives a world is not refused
content_unrefused : (content : Content) (w : World) (fault : StoreFault) → Gives content w → RefusesContent content fault → ⊥
content_unrefused content w fault gives (inl snapshot) = snapshot_unrefused content gives.start fault gives.snapshot gives.legal snapshot
content_unrefused content w fault gives (inr batches) = batches_unrefused content w fault gives batches

text_unrefused : (bytes : List ℕ) (w : World) (fault : StoreFault) → Recovered bytes w → RefusesText bytes fault → ⊥
text_unrefused bytes w fault recovered refused =
    let same = text_same bytes refused.0 recovered.content refused.1 recovered.text in
    content_unrefused recovered.content w fault recovered.gives (rw (sym same) refused.2)

-- a text begins with a header
begins_with_header : (content : Content) (bytes : List ℕ) → IsText content bytes → BeginsWithHeader bytes
begins_with_header content bytes is =
    let text = is.3 in (text.selector, is.0, after_header bytes content is.0 is.1 is.2 text, text_header bytes content is.0 is.1 is.2 text)

-- the journal of such a text is refused for lack of memory or by the device alone
pub journal_unrefused : (bytes : List ℕ) (content : Content) (why : JournalFault) → IsText content bytes → JournalRefuses bytes why → IsPassing (store_fault_of why)
journal_unrefused bytes content journal.OutOfMemory text refused = inl refl
journal_unrefused bytes content journal.Device text refused = inr refl
journal_unrefused bytes content journal.NoMagic text refused = absurd (refused (begins_with_header content bytes text))
journal_unrefused bytes content journal.BadRecord text refused = absurd (refused.1 content text)
journal_unrefused bytes content journal.NotEmpty text refused = absurd refused
journal_unrefused bytes content journal.HalfSize text refused = absurd refused
journal_unrefused bytes content journal.JournalFull text refused = absurd refused
journal_unrefused bytes content journal.Stopped text refused = absurd refused

pub recovered_is_opened : RecoveredIsOpened
recovered_is_opened bytes w fault recovered (inl passing) = passing
recovered_is_opened bytes w fault recovered (inr (inl by_journal)) =
    rw by_journal.1 (journal_unrefused bytes recovered.content by_journal.0 recovered.text by_journal.2)
recovered_is_opened bytes w fault recovered (inr (inr by_text)) = absurd (text_unrefused bytes w fault recovered by_text)

-- ---- refusals, stated for the whole device

-- what a journal holds
pub content_refused : (bytes : List ℕ) (content : Content) (fault : StoreFault) → IsText content bytes → (fault ≡ OutOfMemory) ⊎ RefusesContent content fault → RefusesOpen bytes fault
content_refused bytes content fault text refused = ⊎_elim (λ memory. inl (inl memory)) (λ r. inr (inr (content, text, r))) refused

-- a journal that was just made is refused for lack of memory or by the device alone
pub made_refused : (bytes made : List ℕ) (half_size : ℕ) (content : Content) (why : JournalFault) (fault : StoreFault) → fault ≡ store_fault_of why → IsText content made → JournalRefuses made why → RefusesCreate bytes half_size fault
made_refused bytes made half_size content why fault is text refused =
    rw is (⊎_elim (λ memory. rw memory tt) (λ device. rw device tt) (journal_unrefused made content why text refused))
