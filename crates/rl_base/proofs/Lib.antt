mod EventLaws
