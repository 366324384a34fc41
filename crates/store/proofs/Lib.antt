pub mod AllotLaws
pub mod FieldsLaws
pub mod ObjectLaws
pub mod SurveyLaws
