-- A test that fails shows a part that no accepted journal has; if none fails, the events decide.
use mathlib.Core.Path.{sym, ◌∙◌}
use Rattle.scan.proofs.Whole.{too_many, other-bytes, other-setup, first-entered, by-events}
use Rattle.scan.proofs.head.Goals as goal

pub returns-then-count-gt-SLOTS : goal.returns-then-count-gt-SLOTS
returns-then-count-gt-SLOTS c = too_many c.args.journal.now (rw c.from-count.ensures at c.if-count-gt-SLOTS.true)

pub returns-then-not-header-version : goal.returns-then-not-header-version
returns-then-not-header-version c =
    let version = rw c.from-count.ensures at c.is_version-version.ensures in
    let unused = rw (c.slot_place.ensures, c.from-count.ensures) at c.is_zero-unused.ensures in
    other-bytes c.args.journal.now c.told-journal c.is_header-header.result c.is_version-version.result c.is_zero-unused.result c.is_header-header.ensures version
    unused c.if-not-header-version.true

pub returns-then-not-setup_in_range : goal.returns-then-not-setup_in_range
returns-then-not-setup_in_range c =
    other-setup c.args.journal.now c.setup_in-setup.result c.setup_in-setup.ensures c.setup_in_range.result c.setup_in_range.ensures c.if-not-setup_in_range.true

pub returns : goal.returns
returns c =
    let version = rw c.from-count.ensures at c.is_version-version.ensures in
    let unused = rw (c.slot_place.ensures, c.from-count.ensures) at c.is_zero-unused.ensures in
    let few = rw c.from-count.ensures at c.if-count-gt-SLOTS.false in
    let same =
    by-events c.args.journal.now c.told-journal c.is_header-header.result c.is_version-version.result c.is_zero-unused.result c.is_header-header.ensures version
    unused few c.if-not-header-version.false in
    rw c.from-count.ensures
    (record { few = few; first = first-entered c.args.journal.now c.setup_in-setup.result c.setup_in-setup.ensures (sym c.setup_in_range.ensures ∙ c.if-not-setup_in_range.false); whole = same })
