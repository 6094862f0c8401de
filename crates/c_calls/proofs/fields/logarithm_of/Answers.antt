use Rattle.std.proofs.Common.{◌≡◌, ◌≢◌, ℕ, ◌%◌, ◌^◌, ◌<◌, Option, refl, subst}
use Rattle.std.specs.Prelude.{IfNone, IfSome}
use Rattle.field_base.specs.Powers.{power}
use Rattle.any_field.specs.Contexts.{field_product}
use Rattle.any_field.specs.Orders.{TableIsPrime}
use Rattle.any_field.specs.declared.extension.BinaryExtension.{BinaryExtension}
use Rattle.any_field.specs.declared.extension.factored_logarithms.Logarithms.{Logarithms}
use Rattle.c_calls.specs.ChosenFields.{IsLogarithm}
use Rattle.c_calls.specs.Fields.{wide_number}
use Rattle.c_calls.specs.lemmas.Named.{by-words}
use Rattle.c_calls.proofs.ChosenRings.{stored-low}
use Rattle.c_calls.proofs.LogarithmCalls.{logarithm-by-table, logarithm-least, logarithm-none}
use Rattle.c_calls.proofs.fields.logarithm_of.Goals as goal

pub returns-in-None-clause-found : goal.returns-in-None-clause-found
returns-in-None-clause-found c =
    let field = c.args.field in
    let found = c.logarithm.result in
    by-words field.named.degree (wide_number field.named.tail)
    (λ (d t : ℕ). IfSome found (λ e. IsLogarithm (field_product d t) c.args.base c.args.x e)) field.degree field.tail
    (logarithm-least (field_product field.field.degree field.field.tail) c.args.base _ c.args.x (stored-low field c.args.x refl c.requires.fits)
    found c.logarithm.ensures.found c.logarithm.ensures.least)

pub returns-in-None-clause-none : goal.returns-in-None-clause-none
returns-in-None-clause-none c =
    let field = c.args.field in
    let found = c.logarithm.result in
    by-words field.named.degree (wide_number field.named.tail)
    (λ (d t : ℕ). IfNone found ((k : ℕ) → power 1 (field_product d t) c.args.base k ≢ c.args.x)) field.degree field.tail
    (logarithm-none (field_product field.field.degree field.field.tail) c.args.base _ c.args.x (stored-low field c.args.x refl c.requires.fits)
    found c.logarithm.ensures.none)

pub returns-in-Some-clause-found : goal.returns-in-Some-clause-found
returns-in-Some-clause-found c =
    let field = c.args.field in
    let to = c.in-Some.known in
    let found = c.of.result in
    let same =
    subst (λ (t : Option Logarithms). IfSome t (λ known. (known.field ≡ field.field) × (known.base ≡ c.args.base))) c.in-Some.is c.requires.same in
    by-words field.named.degree (wide_number field.named.tail)
    (λ (d t : ℕ). IfSome found (λ e. IsLogarithm (field_product d t) c.args.base c.args.x e)) field.degree field.tail
    (logarithm-by-table (field_product field.field.degree field.field.tail) c.args.base _ c.args.x
    (stored-low field c.args.x refl c.requires.fits) found
    (subst (λ (f : BinaryExtension). IfSome found (λ e. power 1 (field_product f.degree f.tail) c.args.base e ≡ c.args.x % 2 ^ f.degree)) same.0
    (subst (λ (b : ℕ). IfSome found (λ e. power 1 (field_product to.field.degree to.field.tail) b e ≡ c.args.x % 2 ^ to.field.degree)) same.1
    c.of.ensures.found))
    (subst (λ (f : BinaryExtension). IfSome found (λ e. TableIsPrime → (k : ℕ) → k < e
    → power 1 (field_product f.degree f.tail) c.args.base k ≢ c.args.x % 2 ^ f.degree)) same.0
    (subst (λ (b : ℕ). IfSome found (λ e. TableIsPrime → (k : ℕ) → k < e
    → power 1 (field_product to.field.degree to.field.tail) b k ≢ c.args.x % 2 ^ to.field.degree)) same.1 c.of.ensures.least)))

pub returns-in-Some-clause-none : goal.returns-in-Some-clause-none
returns-in-Some-clause-none c =
    let field = c.args.field in
    let to = c.in-Some.known in
    let found = c.of.result in
    let same =
    subst (λ (t : Option Logarithms). IfSome t (λ known. (known.field ≡ field.field) × (known.base ≡ c.args.base))) c.in-Some.is c.requires.same in
    by-words field.named.degree (wide_number field.named.tail)
    (λ (d t : ℕ). IfNone found ((k : ℕ) → power 1 (field_product d t) c.args.base k ≢ c.args.x)) field.degree field.tail
    (logarithm-none (field_product field.field.degree field.field.tail) c.args.base _ c.args.x (stored-low field c.args.x refl c.requires.fits) found
    (subst (λ (f : BinaryExtension). IfNone found ((k : ℕ) → power 1 (field_product f.degree f.tail) c.args.base k ≢ c.args.x % 2 ^ f.degree)) same.0
    (subst (λ (b : ℕ). IfNone found ((k : ℕ) → power 1 (field_product to.field.degree to.field.tail) b k ≢ c.args.x % 2 ^ to.field.degree)) same.1
    c.of.ensures.none)))
