mod CreateLaws
