use Rattle.std.proofs.Common.{◌+◌, ◌*◌, ◌∙◌, ℕ, length, refl, slice_index, sym, arith}
use Rattle.error_codes.specs.Filling.{is_marked}
use Rattle.error_codes.specs.Wrong.{listed_share}
use Rattle.error_codes.proofs.Interpolating.{is_through}
use Rattle.error_codes.proofs.RightShares.{through-unmarked, unmarked-distinct, unmarked-rows, unmarked-through}
use Rattle.error_codes.proofs.combining.combine_unmarked.Goals as goal

pub agree-requires-clause-enough : goal.agree-requires-clause-enough
agree-requires-clause-enough c = let all = c.unmarked_of-unmarked.ensures.places.all in omega (arith, all, c.requires.enough)

pub agree-requires-clause-few : goal.agree-requires-clause-few
agree-requires-clause-few c = let all = c.unmarked_of-unmarked.ensures.places.all in omega (arith, all, c.requires.checked.few)

pub agree-requires-clause-distinct : goal.agree-requires-clause-distinct
agree-requires-clause-distinct c =
    let unmarked = c.unmarked_of-unmarked in
    unmarked-distinct (is_marked c.args.marked.now) (length c.args.indexes.now) unmarked.result.count unmarked.result.places unmarked.result.indexes
    c.args.indexes.now unmarked.ensures.places unmarked.ensures.indexes c.requires.checked.distinct

pub agree-requires-clause-room : goal.agree-requires-clause-room
agree-requires-clause-room c =
    let unmarked = c.unmarked_of-unmarked in
    unmarked-rows (is_marked c.args.marked.now) (length c.args.indexes.now) unmarked.result.count unmarked.result.places unmarked.result.indexes
    c.args.indexes.now unmarked.ensures.places unmarked.ensures.indexes (length c.args.secret.now) (length c.args.shares.now) c.requires.checked.room

pub restore-requires-clause-few : goal.restore-requires-clause-few
restore-requires-clause-few c = let checked = c.requires.checked in omega (arith, checked.enough, checked.few)

pub restore-requires-clause-room : goal.restore-requires-clause-room
restore-requires-clause-room c = λ p below.
    let unmarked = c.unmarked_of-unmarked in
    unmarked-rows (is_marked c.args.marked.now) (length c.args.indexes.now) unmarked.result.count unmarked.result.places unmarked.result.indexes
    c.args.indexes.now unmarked.ensures.places unmarked.ensures.indexes (length c.args.secret.now) (length c.args.shares.now) c.requires.checked.room
    p (let all = unmarked.ensures.places.all in omega (arith, all, c.requires.enough, below))

pub returns-then-not-agree-clause-agreed : goal.returns-then-not-agree-clause-agreed
returns-then-not-agree-clause-agreed c =
    let unmarked = c.unmarked_of-unmarked in (
      λ e. absurd (cc),
      λ lie.
          c.if-not-agree.ensures.1
          (λ j inside.
          let found = lie j inside in (
            found.0,
            unmarked-through (is_marked c.args.marked.now) (length c.args.indexes.now) unmarked.result.count unmarked.result.places
                unmarked.result.indexes c.args.indexes.now unmarked.ensures.places unmarked.ensures.indexes c.args.field c.args.needed
                (length c.args.secret.now) j c.args.shares.now found.0 found.1,
          )),
    )

pub returns-clause-agreed : goal.returns-clause-agreed
returns-clause-agreed c =
    let unmarked = c.unmarked_of-unmarked in (
      λ e j inside.
          let found = c.if-not-agree.ensures.0 refl j inside in (
            found.0,
            through-unmarked (is_marked c.args.marked.now) (length c.args.indexes.now) unmarked.result.count unmarked.result.places
                unmarked.result.indexes c.args.indexes.now unmarked.ensures.places unmarked.ensures.indexes c.args.field c.args.needed
                (length c.args.secret.now) j c.args.shares.now found.0 found.1,
          ),
      λ lie. refl,
    )

pub returns-clause-combined : goal.returns-clause-combined
returns-clause-combined c = λ e j cs inside through.
    let unmarked = c.unmarked_of-unmarked in
    let marked = is_marked c.args.marked.now in
    let n : ℕ = length c.args.indexes.now in
    let size : ℕ = length c.args.secret.now in
    let count : ℕ = unmarked.result.count in
    let all = unmarked.ensures.places.all in
    c.restore.ensures.restored j inside
    ∙ sym
    (is_through c.args.field c.args.needed count (slice_index unmarked.result.indexes)
    (listed_share size c.args.shares.now unmarked.result.places j) (omega (arith, all, c.requires.enough))
    (unmarked-distinct marked n count unmarked.result.places unmarked.result.indexes c.args.indexes.now unmarked.ensures.places
    unmarked.ensures.indexes c.requires.checked.distinct)
    (λ p. (c.type_inv.shares (slice_index unmarked.result.places p * size + j)).fits) cs
    (unmarked-through marked n count unmarked.result.places unmarked.result.indexes c.args.indexes.now unmarked.ensures.places
    unmarked.ensures.indexes c.args.field c.args.needed size j c.args.shares.now cs through) 0)
