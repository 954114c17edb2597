-- What a host gets of a line that is read, from what is read of it.
--   point_told, relation_told = its values
--   refused_told, nothing_told = its refusal, and that of no medium
use Rattle.std.proofs.Common.{◌≡◌, ℕ, List, [], refl, ap, ◌∙◌}
use Rattle.rules.specs.Plan.{№, Verdict, fine, refused}
use Rattle.rules.specs.Points.{Point as PaperPoint}
use Rattle.rules.specs.Relations.{Relation as PaperRelation}
use Rattle.rules.specs.Carried.{state_place, point_places, relation_places}
use Rattle.rules.specs.Hosts.{packed}
use Rattle.lines.specs.Paper.{told}
use Rattle.lines.specs.declared.Refusal.{Refusal}
use Rattle.records.specs.declared.point.Point.{Point}
use Rattle.records.specs.declared.relation.Relation.{Relation}
use Rattle.records.specs.Coded.{coded_point, coded_relation}
use Rattle.values.specs.Places.{state_number, point_numbers, relation_numbers}
use Rattle.values.proofs.Carried.{state_place_lem, point_places_lem, relation_places_lem}
use Rattle.sps.specs.Counts.{placed}
use Rattle.sps.specs.Values.{read_as, carried, Told, NoMedium}

-- a line whose verdict is fine
fine_told : (v : Verdict) → v ≡ fine → (ps qs o e : List ℕ) → ps ≡ qs → e ≡ placed ps o → (a n : ℕ) → a ≡ n → Told v n qs o a e
unfolding read_as carried
fine_told v y ps qs o e q w a n p = rw y (record { answer = p; values = w ∙ ap (λ (l : List ℕ). placed l o) q })

pub point_told : (q : Point) (p : PaperPoint) {v : Verdict} → v ≡ fine → q ≡ coded_point p → (ps : List ℕ) → ps ≡ point_numbers q → (o e : List ℕ)
    → e ≡ placed ps o → (a : ℕ) → a ≡ state_number q.state → Told v (state_place p.state) (point_places p) o a e
point_told q p {v} f y ps h o e w a s =
    fine_told v f ps (point_places p) o e (h ∙ ap point_numbers y ∙ point_places_lem p) w a (state_place p.state)
    (s ∙ ap (λ (q : Point). state_number q.state) y ∙ state_place_lem p.state)

pub relation_told : (q : Relation) (p : PaperRelation) {v : Verdict} → v ≡ fine → q ≡ coded_relation p → (ps : List ℕ) → ps ≡ relation_numbers q
    → (o e : List ℕ) → e ≡ placed ps o → Told v 0 (relation_places p) o 0 e
relation_told q p {v} f y ps h o e w =
    fine_told v f ps (relation_places p) o e (h ∙ ap relation_numbers y ∙ relation_places_lem p) w 0 0 refl

pub refused_told : (w : Refusal) (v : Verdict) → v ≡ refused (told w) → (n : ℕ) (qs o : List ℕ) → Told v n qs o (packed (told w)) o
unfolding read_as carried
refused_told w v y n qs o = rw y (record { answer = refl; values = refl })

pub nothing_told : (w : Refusal) → told w ≡ № 20 0 0 0 → (o : List ℕ) → NoMedium o (packed (told w)) o
unfolding read_as carried
nothing_told w e o = record { answer = ap packed e; values = refl }
